-- Products that bins take and select, bin by bin.
use Rattle.std.proofs.Common.{◌≡◌, ℕ, ◌+◌, ◌<◌, ◌≤◌, List, [], ◌∷◌, ◌++◌, length, take, take_all, get_or, refl, sym, ap, ◌∙◌, Bool, true, false, ◌||◌, ◌&&◌, not}
use Rattle.std.specs.List.{list_any, flat_map}
use Rattle.std.proofs.lemmas.List.{take_more, map-append, append-nil}
use Rattle.std.proofs.lemmas.List.Folds.{list_any-append}
use Rattle.std.proofs.lemmas.List.Concat.{flat_map-append}
use Rattle.design_data.specs.declared.infos.BinInfo.{BinInfo}
use Rattle.design_data.specs.declared.infos.BinKind.{BinKind}
use Rattle.design_data.specs.Crosses.{is_left}
use Rattle.elab_values.specs.declared.made.Made.{Made}
use Rattle.elab_crosses.specs.Removal.{infos, takes}

or_nothing : (a b : Bool) → (a || (b || false)) ≡ (a || b)
or_nothing true true = refl
or_nothing true false = refl
or_nothing false true = refl
or_nothing false false = refl

pub any_push : (q : BinInfo → Bool) (ms : List Made) (made : Made) → (list_any q (infos ms) || q made.bin) ≡ list_any q (infos (ms ++ made ∷ []))
any_push q ms made = sym (ap (list_any q) (map-append (λ (m : Made). m.bin) ms (made ∷ [])) ∙ (list_any-append q (infos ms) (made.bin ∷ []) ∙ or_nothing (list_any q (infos ms)) (q made.bin)))

pub any_next : (q : BinInfo → Bool) (ms : List Made) (i : ℕ) (made : Made) → i < length ms → made ≡ get_or ms i made → (list_any q (infos (take i ms)) || q made.bin) ≡ list_any q (infos (take (i + 1) ms))
any_next q ms i made lt is = any_push q (take i ms) made ∙ ap (λ (xs : List Made). list_any q (infos xs)) (ap (λ (m : Made). take i ms ++ m ∷ []) is ∙ sym (take_more ms i made lt))

not_or : (a b : Bool) → not (a || b) ≡ (not a && not b)
not_or true b = refl
not_or false b = refl

pub none_takes : (kind : BinKind) (product : List ℕ) (bins : List BinInfo) → not (list_any (takes kind product) bins) ≡ is_left bins kind product
none_takes kind product [] = refl
none_takes kind product (bin ∷ bins) = not_or (takes kind product bin) (list_any (takes kind product) bins) ∙ ap (λ (b : Bool). not (takes kind product bin) && b) (none_takes kind product bins)

pub all_taken : (kind : BinKind) (product : List ℕ) (ms : List Made) (i : ℕ) → length ms ≤ i → not (list_any (takes kind product) (infos (take i ms))) ≡ is_left (infos ms) kind product
all_taken kind product ms i le = ap (λ (xs : List Made). not (list_any (takes kind product) (infos xs))) (take_all i ms le) ∙ none_takes kind product (infos ms)

pub left_push : (f : Made → List Made) (ms : List Made) (made : Made) → flat_map f ms ++ f made ≡ flat_map f (ms ++ made ∷ [])
left_push f ms made = sym (flat_map-append f ms (made ∷ []) ∙ ap (λ (xs : List Made). flat_map f ms ++ xs) (append-nil (f made)))

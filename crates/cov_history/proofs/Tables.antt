-- Designs of the same tables fit the same records.
use Rattle.std.proofs.Common.{◌≡◌, ℕ, Bool, true, false, ◌&&◌, List, [], ◌∷◌, refl, sym, ap, ◌∙◌, true≢false, arith}
use Rattle.std.specs.Prelude.{◌==◌, bytes_eq, if◌then◌else◌}
use Rattle.std.proofs.lemmas.Bool.Decides.{nat_tests}
use Rattle.design_data.specs.declared.infos.Signal.{Signal}
use Rattle.design_data.specs.declared.infos.InstInfo.{InstInfo}
use Rattle.design_data.specs.declared.infos.GroupInfo.{GroupInfo}
use Rattle.design_data.specs.declared.design.Design.{Design}
use Rattle.record_codec.specs.declared.record.Record.{Record}
use Rattle.record_codec.specs.declared.record.SignalRow.{SignalRow}
use Rattle.record_codec.specs.declared.record.ArgRow.{ArgRow}
use Rattle.record_codec.specs.declared.record.InstRow.{InstRow}
use Rattle.cov_history.specs.declared.entry.Event.{Event}
use Rattle.cov_history.specs.declared.entry.Event.TheVariants.{Admit, Exclude, Include, Revise, Stop}
use Rattle.cov_history.specs.declared.entry.Entry.{Entry}
use Rattle.cov_history.specs.Tables.{agree, group_name, same_sign, is_signal, is_arg, is_instance, fits, same_signal, same_instance, same_tables}
use Rattle.cov_history.specs.History.{design_of, design_after, suits}
use Rattle.cov_history.specs.Laws.{FitsStay}
use Rattle.cov_history.proofs.Bools.{and_left, and_right}
use Rattle.cov_history.proofs.Snoc.{design_snoc}
use Rattle.cov_history.proofs.Legal.{same_bytes, kept_along, suits_of}

same_number : (a b : ℕ) → (a == b) ≡ true → a ≡ b
same_number a b e = grind (arith, e, nat_tests)

signs_same : (a b : Bool) → same_sign a b ≡ true → a ≡ b
signs_same true true e = refl
signs_same true false e = absurd (true≢false (sym e))
signs_same false true e = absurd (true≢false (sym e))
signs_same false false e = refl

module _ {A B : Type 0} (test : A → B → Bool) (other_test : A → B → Bool) (same : B → B → Bool) (alike : (x : A) (a b : B) → same a b ≡ true → test x a ≡ other_test x b) where
  agree_same : (xs : List A) (bs cs : List B) → agree same bs cs ≡ true → agree test xs bs ≡ agree other_test xs cs
  agree_same [] [] [] e = refl
  agree_same [] [] (c ∷ cs) e = absurd (true≢false (sym e))
  agree_same [] (b ∷ bs) [] e = absurd (true≢false (sym e))
  agree_same [] (b ∷ bs) (c ∷ cs) e = refl
  agree_same (x ∷ xs) [] [] e = refl
  agree_same (x ∷ xs) [] (c ∷ cs) e = absurd (true≢false (sym e))
  agree_same (x ∷ xs) (b ∷ bs) [] e = absurd (true≢false (sym e))
  agree_same (x ∷ xs) (b ∷ bs) (c ∷ cs) e =
      let here = alike x b c (and_left (same b c) (agree same bs cs) e) in
      let rest = agree_same xs bs cs (and_right (same b c) (agree same bs cs) e) in
      λ i. here i && rest i

signal_alike : (row : SignalRow) (a b : Signal) → same_signal a b ≡ true → is_signal row a ≡ is_signal row b
signal_alike row a b e =
    let rest = and_right (bytes_eq a.name b.name) (a.width == b.width && same_sign a.signed b.signed) e in
    let n = same_bytes a.name b.name (and_left (bytes_eq a.name b.name) (a.width == b.width && same_sign a.signed b.signed) e) in
    let w = same_number a.width b.width (and_left (a.width == b.width) (same_sign a.signed b.signed) rest) in
    let s = signs_same a.signed b.signed (and_right (a.width == b.width) (same_sign a.signed b.signed) rest) in
    λ i. bytes_eq row.name (n i) && (row.width == w i && same_sign row.signed (s i))

arg_alike : (row : ArgRow) (a b : Signal) → same_signal a b ≡ true → is_arg row a ≡ is_arg row b
arg_alike row a b e =
    let rest = and_right (bytes_eq a.name b.name) (a.width == b.width && same_sign a.signed b.signed) e in
    let w = same_number a.width b.width (and_left (a.width == b.width) (same_sign a.signed b.signed) rest) in
    let s = signs_same a.signed b.signed (and_right (a.width == b.width) (same_sign a.signed b.signed) rest) in
    λ i. row.width == w i && same_sign row.signed (s i)

args_alike : (b : Bool) (rows : List ArgRow) (xs ys : List Signal) → agree same_signal xs ys ≡ true → agree is_arg rows (if b then [] else xs) ≡ agree is_arg rows (if b then [] else ys)
args_alike true rows xs ys e = refl
args_alike false rows xs ys e = agree_same is_arg is_arg same_signal arg_alike rows xs ys e

instance_alike : (version : ℕ) (groups others : List GroupInfo) (row : InstRow) (a b : InstInfo) → same_instance groups others a b ≡ true → is_instance version groups row a ≡ is_instance version others row b
instance_alike version groups others row a b e =
    let first = bytes_eq a.name b.name in
    let second = bytes_eq (group_name groups a.group) (group_name others b.group) in
    let third = agree same_signal a.args b.args in
    let rest = and_right first (second && third) e in
    let n = same_bytes a.name b.name (and_left first (second && third) e) in
    let g = same_bytes (group_name groups a.group) (group_name others b.group) (and_left second third rest) in
    let args = args_alike (version == 1) row.args a.args b.args (and_right second third rest) in
    λ i. bytes_eq row.name (n i) && (bytes_eq row.group (g i) && args i)

pub fits_alike : (d other : Design) (r : Record) → same_tables d other ≡ true → fits d r ≡ fits other r
unfolding fits same_tables
fits_alike d other r e =
    let s = agree_same is_signal is_signal same_signal signal_alike r.signals d.signals other.signals (and_left (agree same_signal d.signals other.signals) (agree (same_instance d.groups other.groups) d.instances other.instances) e) in
    let i = agree_same (is_instance r.version d.groups) (is_instance r.version other.groups) (same_instance d.groups other.groups) (instance_alike r.version d.groups other.groups) r.instances d.instances other.instances (and_right (agree same_signal d.signals other.signals) (agree (same_instance d.groups other.groups) d.instances other.instances) e) in
    λ k. s k && i k

abbrev Fit : (opening : Design) → (r : Record) → List Entry → Type 0
Fit opening r h = fits (design_of opening h) r ≡ fits opening r

after : (opening d : Design) (h : List Entry) (r : Record) (e : Event) → fits d r ≡ fits opening r → suits opening h e ≡ true → fits (design_after d e) r ≡ fits opening r
after opening d h r (Admit x) f s = f
after opening d h r (Exclude path) f s = f
after opening d h r (Include path) f s = f
after opening d h r (Revise revision) f s = fits_alike revision.design opening r s
after opening d h r Stop f s = f

pub fits_stay : FitsStay
fits_stay opening h r legal =
    kept_along opening (Fit opening r) (λ x e f m. ap (λ (d : Design). fits d r) (design_snoc opening x e) ∙ after opening (design_of opening x) x r e.event f (suits_of opening x e m)) [] h refl legal

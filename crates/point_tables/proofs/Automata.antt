-- The automata of a point's transition bins.
use Rattle.std.proofs.Common.{◌≡◌, ℕ, suc, ◌+◌, ◌<◌, List, [], ◌∷◌, ◌++◌, length, get_or, take, Some, refl, ap, sym, subst, ◌∙◌, inl, inr, arith}
use Rattle.std.specs.Prelude.{slice_get, Contains}
use Rattle.std.proofs.lemmas.List.{take_more, append-nil, append_assoc, length-take-le}
use Rattle.std.proofs.lemmas.List.Elements.{Contains-append_cases}
use Rattle.design_data.specs.declared.infos.BinInfo.{BinInfo}
use Rattle.design_data.specs.declared.infos.BinKind.{BinKind}
use Rattle.design_data.specs.declared.infos.BinRule.{BinRule}
use Rattle.design_data.specs.declared.infos.BinRule.TheVariants.{Values, Patterns, Trans, Default, DefaultValues, DefaultSequence, Picked, Product}
use Rattle.point_tables.specs.declared.tables.Machine.{Machine}
use Rattle.point_tables.specs.Tables.{machine_of, machines_from}
use Rattle.point_tables.proofs.Places.{in_none, in_one}

-- the automaton is that of a bin
pub record IsMachine (first : ℕ) (bins : List BinInfo) (machine : Machine) : Type 0 where
  pub index : ℕ
  pub bin : BinInfo
  pub is_bin : slice_get bins index ≡ Some bin
  pub is_place : machine.place ≡ first + index
  pub is_kind : machine.kind ≡ bin.kind
  pub is_rule : bin.rule ≡ Trans machine.watcher

pub record IsOwn (place : ℕ) (kind : BinKind) (rule : BinRule) (machine : Machine) : Type 0 where
  pub is_place : machine.place ≡ place
  pub is_kind : machine.kind ≡ kind
  pub is_rule : rule ≡ Trans machine.watcher

own : (place : ℕ) (kind : BinKind) (rule : BinRule) (machine : Machine) → Contains (machine_of place kind rule) machine → IsOwn place kind rule machine
own place kind (Values set) machine c = absurd (in_none machine c)
own place kind (Patterns patterns) machine c = absurd (in_none machine c)
own place kind (Trans seqs) machine c = subst (IsOwn place kind (Trans seqs)) (in_one (record { place = place; kind = kind; watcher = seqs }) machine c) (record { is_place = refl; is_kind = refl; is_rule = refl })
own place kind Default machine c = absurd (in_none machine c)
own place kind (DefaultValues set) machine c = absurd (in_none machine c)
own place kind DefaultSequence machine c = absurd (in_none machine c)
own place kind (Picked select) machine c = absurd (in_none machine c)
own place kind (Product members) machine c = absurd (in_none machine c)

pub from_machines : (first : ℕ) (bins : List BinInfo) (machine : Machine) → Contains (machines_from first bins) machine → IsMachine first bins machine
from_machines first [] machine c = absurd (in_none machine c)
from_machines first (bin ∷ bins) machine c = elim (Contains-append_cases (machine_of first bin.kind bin.rule) (machines_from (first + 1) bins) machine c) [
  | inl here ↦ let o = own first bin.kind bin.rule machine here in record { index = 0; bin = bin; is_bin = refl; is_place = omega (arith, o.is_place); is_kind = o.is_kind; is_rule = o.is_rule }
  | inr later ↦ let m = from_machines (first + 1) bins machine later in record { index = suc m.index; bin = m.bin; is_bin = m.is_bin; is_place = omega (arith, m.is_place); is_kind = m.is_kind; is_rule = m.is_rule }
]

machines_append : (first : ℕ) (xs ys : List BinInfo) → machines_from first (xs ++ ys) ≡ machines_from first xs ++ machines_from (first + length xs) ys
machines_append first [] ys = let e : first ≡ first + 0 = omega arith in ap (λ (n : ℕ). machines_from n ys) e
machines_append first (x ∷ xs) ys =
    ap (λ (ms : List Machine). machine_of first x.kind x.rule ++ ms) (machines_append (first + 1) xs ys ∙ (let e : first + 1 + length xs ≡ first + length (x ∷ xs) = omega arith in ap (λ (n : ℕ). machines_from (first + 1) xs ++ machines_from n ys) e))
    ∙ sym (append_assoc (machine_of first x.kind x.rule) (machines_from (first + 1) xs) (machines_from (first + length (x ∷ xs)) ys))

pub machines_more : (bins : List BinInfo) (i : ℕ) (bin : BinInfo) → i < length bins → bin ≡ get_or bins i bin → machines_from 0 (take (i + 1) bins) ≡ machines_from 0 (take i bins) ++ machine_of i bin.kind bin.rule
machines_more bins i bin lt is =
    ap (machines_from 0) (take_more bins i bin lt ∙ ap (λ (b : BinInfo). take i bins ++ b ∷ []) (sym is))
    ∙ machines_append 0 (take i bins) (bin ∷ [])
    ∙ (let e : 0 + length (take i bins) ≡ i = omega (arith, lt, length-take-le i bins (omega (arith, lt))) in ap (λ (n : ℕ). machines_from 0 (take i bins) ++ (machine_of n bin.kind bin.rule ++ [])) e)
    ∙ ap (λ (ms : List Machine). machines_from 0 (take i bins) ++ ms) (append-nil (machine_of i bin.kind bin.rule))

-- Records that fit, and designs of the same tables.
use Rattle.std.proofs.Common.{◌≡◌, ℕ, ◌+◌, Bool, true, false, ◌&&◌, List, [], ◌∷◌, length, map, refl, ap, ◌∙◌, eq-eqb}
use Rattle.std.specs.Prelude.{Option, Some, None, slice_get, ◌==◌, bytes_eq, if◌then◌else◌, is_none}
use Rattle.std.proofs.lemmas.Slice.Eq.{bytes_eq-Decides}
use Rattle.design_data.specs.declared.infos.Signal.{Signal}
use Rattle.design_data.specs.declared.infos.InstInfo.{InstInfo}
use Rattle.design_data.specs.declared.infos.GroupInfo.{GroupInfo}
use Rattle.design_data.specs.declared.design.Design.{Design}
use Rattle.record_codec.specs.declared.record.Record.{Record}
use Rattle.cov_counting.specs.Tables.{signal_row, arg_row, instance_row, name_of}
use Rattle.sampler.specs.Shape.{Fits}
use Rattle.cov_history.specs.Tables.{agree, group_name, same_sign, is_signal, is_arg, is_instance, fits, same_signal, same_instance, same_tables}
use Rattle.session_table.specs.Contents.{apart, first_place, tables_apart}

bytes_self : (xs : List ℕ) → bytes_eq xs xs ≡ true
bytes_self xs = (bytes_eq-Decides xs xs).1 refl

sign_self : (b : Bool) → same_sign b b ≡ true
sign_self true = refl
sign_self false = refl

number_self : (n : ℕ) → (n == n) ≡ true
number_self n = eq-eqb n n refl

all_three : (a b c : Bool) → a ≡ true → b ≡ true → c ≡ true → (a && (b && c)) ≡ true
all_three a b c p q r = λ i. p i && (q i && r i)

both_true : (a b : Bool) → a ≡ true → b ≡ true → (a && b) ≡ true
both_true a b p q = λ i. p i && q i

module _ {A B : Type 0} (test : A → B → Bool) (f : B → A) (agrees : (y : B) → test (f y) y ≡ true) where
  agree_map : (ys : List B) → agree test (map f ys) ys ≡ true
  agree_map [] = refl
  agree_map (y ∷ ys) = both_true (test (f y) y) (agree test (map f ys) ys) (agrees y) (agree_map ys)

signal_agrees : (s : Signal) → is_signal (signal_row s) s ≡ true
signal_agrees s = all_three _ _ _ (bytes_self s.name) (number_self s.width) (sign_self s.signed)

arg_agrees : (s : Signal) → is_arg (arg_row s) s ≡ true
arg_agrees s = both_true _ _ (number_self s.width) (sign_self s.signed)

args_agree : (b : Bool) (args : List Signal) → agree is_arg (if b then [] else map arg_row args) (if b then [] else args) ≡ true
args_agree true args = refl
args_agree false args = agree_map is_arg arg_row arg_agrees args

name_same : (o : Option GroupInfo) (groups : List GroupInfo) (n : ℕ) → slice_get groups n ≡ o → bytes_eq (name_of (slice_get groups n)) (group_name groups n) ≡ true
name_same None groups n is = rw is (bytes_self [])
name_same (Some group) groups n is = rw is (bytes_self group.name)

instance_agrees : (version : ℕ) (groups : List GroupInfo) (inst : InstInfo) → is_instance version groups (instance_row version groups inst) inst ≡ true
instance_agrees version groups inst = all_three _ _ _ (bytes_self inst.name) (name_same (slice_get groups inst.group) groups inst.group refl) (args_agree (version == 1) inst.args)

-- a record with the tables of the design fits it
pub fits_of : (d : Design) (r : Record) → Fits d r → fits d r ≡ true
unfolding fits
fits_of d r f = both_true _ _
    (ap (λ rows. agree is_signal rows d.signals) f.signals ∙ agree_map is_signal signal_row signal_agrees d.signals)
    (ap (λ rows. agree (is_instance r.version d.groups) rows d.instances) f.instances ∙ agree_map (is_instance r.version d.groups) (instance_row r.version d.groups) (instance_agrees r.version d.groups) d.instances)

-- ---- the tables of two designs

pub apart_agree : {A : Type 0} (same : A → A → Bool) (place : ℕ) (xs ys : List A) → agree same xs ys ≡ is_none (apart same place xs ys)
apart_agree same place [] [] = refl
apart_agree same place [] (y ∷ ys) = refl
apart_agree same place (x ∷ xs) [] = refl
apart_agree same place (x ∷ xs) (y ∷ ys) = by (same x y) (apart_agree same (place + 1) xs ys)
  where
    by : (b : Bool) → agree same xs ys ≡ is_none (apart same (place + 1) xs ys) → (b && agree same xs ys) ≡ is_none (if b then apart same (place + 1) xs ys else Some place)
    by true e = e
    by false e = refl

nowhere : (signals : Option ℕ) (count : ℕ) (instances : Option ℕ) → first_place signals count instances ≡ None → (signals ≡ None) × (instances ≡ None)
nowhere (Some at) count instances e = absurd cc
nowhere None count (Some at) e = absurd cc
nowhere None count None e = (refl, refl)

-- two designs that differ nowhere have the same tables
pub same_of : (opening new : Design) → tables_apart opening new ≡ None → same_tables new opening ≡ true
unfolding tables_apart same_tables
same_of opening new e =
    let n = nowhere (apart same_signal 0 new.signals opening.signals) (length opening.signals) (apart (same_instance new.groups opening.groups) 0 new.instances opening.instances) e in
    both_true _ _
    (apart_agree same_signal 0 new.signals opening.signals ∙ ap is_none n.0)
    (apart_agree (same_instance new.groups opening.groups) 0 new.instances opening.instances ∙ ap is_none n.1)

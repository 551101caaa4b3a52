-- A record whose tables are a design's passes the test of a store.
use Rattle.std.proofs.Common.{◌≡◌, ℕ, List, [], ◌∷◌, map, Bool, true, false, Option, Some, None, refl, ap, ◌∙◌, arith}
use Rattle.std.specs.Prelude.{◌==◌, ◌&&◌, slice_get, bytes_eq, if◌then◌else◌}
use Rattle.std.proofs.lemmas.Bool.Decides.{nat_tests}
use Rattle.std.proofs.lemmas.Slice.Eq.{bytes_eq-Decides}
use Rattle.std.specs.Option.{option_map_or}
use Rattle.design_data.specs.declared.design.Design.{Design}
use Rattle.design_data.specs.declared.infos.Signal.{Signal}
use Rattle.design_data.specs.declared.infos.InstInfo.{InstInfo}
use Rattle.design_data.specs.declared.infos.GroupInfo.{GroupInfo}
use Rattle.record_codec.specs.declared.record.Record.{Record}
use Rattle.record_codec.specs.declared.record.SignalRow.{SignalRow}
use Rattle.record_codec.specs.declared.record.InstRow.{InstRow}
use Rattle.covd_commands.specs.Tables.{signal_row, arg_row, instance_row, name_of}
use Rattle.sampler.specs.Shape.{Fits}
use Rattle.cov_history.specs.Tables.{fits, agree, same_sign, is_signal, is_arg, is_instance}

both : (a b : Bool) → a ≡ true → b ≡ true → (a && b) ≡ true
both a b e f = rw (e, f) refl

same_name : (name : List ℕ) → bytes_eq name name ≡ true
same_name name = (bytes_eq-Decides name name).1 refl

same_number : (n : ℕ) → (n == n) ≡ true
same_number n = grind (arith, nat_tests)

sign : (signed : Bool) → same_sign signed signed ≡ true
sign true = refl
sign false = refl

agree_map : {A B : Type 0} (test : B → A → Bool) (f : A → B) → ((x : A) → test (f x) x ≡ true) → (xs : List A) → agree test (map f xs) xs ≡ true
agree_map test f each [] = refl
agree_map test f each (x ∷ xs) = both (test (f x) x) (agree test (map f xs) xs) (each x) (agree_map test f each xs)

signal_is : (signal : Signal) → is_signal (signal_row signal) signal ≡ true
signal_is signal = both _ _ (same_name signal.name) (both _ _ (same_number signal.width) (sign signal.signed))

arg_is : (arg : Signal) → is_arg (arg_row arg) arg ≡ true
arg_is arg = both _ _ (same_number arg.width) (sign arg.signed)

args_by : (b : Bool) (args : List Signal) → agree is_arg (if b then [] else map arg_row args) (if b then [] else args) ≡ true
args_by true args = refl
args_by false args = agree_map is_arg arg_row arg_is args

group_by : (group : Option GroupInfo) → bytes_eq (name_of group) (option_map_or (λ info. info.name) group []) ≡ true
group_by None = same_name []
group_by (Some group) = same_name group.name

instance_is : (version : ℕ) (groups : List GroupInfo) (inst : InstInfo) → is_instance version groups (instance_row version groups inst) inst ≡ true
instance_is version groups inst = both _ _ (same_name inst.name) (both _ _ (group_by (slice_get groups inst.group)) (args_by (version == 1) inst.args))

pub fits_is : (d : Design) (r : Record) → Fits d r → fits d r ≡ true
unfolding fits
fits_is d r f =
    let signals : agree is_signal r.signals d.signals ≡ true = ap (λ (rows : List SignalRow). agree is_signal rows d.signals) f.signals ∙ agree_map is_signal signal_row signal_is d.signals in
    let instances : agree (is_instance r.version d.groups) r.instances d.instances ≡ true = ap (λ (rows : List InstRow). agree (is_instance r.version d.groups) rows d.instances) f.instances ∙ agree_map (is_instance r.version d.groups) (instance_row r.version d.groups) (instance_is r.version d.groups) d.instances in
    both _ _ signals instances

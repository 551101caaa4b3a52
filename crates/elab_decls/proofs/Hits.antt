-- No option sets how often a bin has to be hit to less than once, nor how many automatic bins a point has to none or to
-- more than 65,536.
use Rattle.std.proofs.Common.{◌≡◌, ℕ, ◌≤◌, List, [], ◌∷◌, refl, subst, Bool, true, false, cond, arith, Option, Some, None, Result, Ok, Err}
use Rattle.std.specs.Prelude.{ℤ, pos, negsuc, int_le, is_ok}
use Rattle.std.specs.List.{AllByRecursion, find}
use Rattle.std.specs.Str.{bytes_eq}
use Rattle.cov_base.specs.Sets.{natural}
use Rattle.cov_tree.specs.declared.bins.OptDecl.{OptDecl}
use Rattle.cov_tree.specs.declared.groups.Member.{Member}
use Rattle.cov_tree.specs.declared.groups.Member.TheVariants as members
use Rattle.const_eval.specs.Scopes.{Levels}
use Rattle.cov_options.specs.declared.options.Options.{Options}
use Rattle.cov_options.specs.declared.values.Level.{Level}
use Rattle.cov_options.specs.declared.values.Level.TheVariants.{Group}
use Rattle.cov_options.specs.declared.values.OptValue.{OptValue}
use Rattle.cov_options.specs.declared.values.OptValue.TheVariants.{Number, Text}
use Rattle.cov_options.specs.declared.values.OptFault.{OptFault}
use Rattle.cov_options.specs.Values.{numbers, accepts, allows, refusal, number_of}
use Rattle.cov_options.specs.Table.{Row, most, options, type_options, row_of, after_of, answer, after, defaults}
use Rattle.elab_base.proofs.Keeps.{bind_ok, ok_is, each_keeps, and_first, and_second}
use Rattle.elab_decls.specs.Options.{seen_by, value_of, set_as, option_set, options_set, member_set, group_options}
use Rattle.elab_decls.specs.Invariant.{AreInRange}

-- an option set to one of its values
abbrev Sound : Row → Type 0
Sound row = (v : OptValue) (o : Options) → accepts row.values v ≡ true → AreInRange o → AreInRange (row.with v o)

least_one : (n : ℤ) → int_le (pos 1) n ≡ true → 1 ≤ natural n
least_one (pos n) e = grind (arith, e)
least_one (negsuc n) e = absurd (grind (arith, e))

at_least_one : (v : OptValue) → accepts (numbers 1 most) v ≡ true → 1 ≤ number_of v
at_least_one (Number n) e = least_one n (and_first (int_le (pos 1) n) (int_le n (pos most)) e)
at_least_one (Text t) e = absurd cc

up_to : (n : ℤ) (top : ℕ) → int_le n (pos top) ≡ true → int_le (pos 1) n ≡ true → natural n ≤ top
up_to (pos n) top e least = grind (arith, e)
up_to (negsuc n) top e least = absurd (grind (arith, least))

at_most : (v : OptValue) → accepts (numbers 1 65536) v ≡ true → (1 ≤ number_of v) × (number_of v ≤ 65536)
at_most (Number n) e =
    let least = and_first (int_le (pos 1) n) (int_le n (pos 65536)) e in
    (least_one n least, up_to n 65536 (and_second (int_le (pos 1) n) (int_le n (pos 65536)) e) least)
at_most (Text t) e = absurd cc

sound_options : AllByRecursion Sound options
sound_options = (λ v o e h. h, (λ v o e h. h, (λ v o e h. h, (λ v o e h. h, (λ v o e h. (at_least_one v e, h.1, h.2), (λ v o e h. h, (λ v o e h. let range = at_most v e in (h.0, range.0, range.1), (λ v o e h. h, (λ v o e h. h, (λ v o e h. h, tt))))))))))

sound_type_options : AllByRecursion Sound type_options
sound_type_options = (λ v o e h. h, (λ v o e h. h, (λ v o e h. h, (λ v o e h. h, (λ v o e h. h, (λ v o e h. h, tt))))))

abbrev SoundIfSome : Option Row → Type 0
SoundIfSome None = Unit {0}
SoundIfSome (Some row) = Sound row

found_sound : (test : Row → Bool) (rows : List Row) → AllByRecursion Sound rows → SoundIfSome (find test rows)
found_sound test [] all = tt
found_sound test (row ∷ rows) all = by (test row) all.0 (found_sound test rows all.1)
  where
    by : (b : Bool) → Sound row → SoundIfSome (find test rows) → SoundIfSome (cond b (Some row) (find test rows))
    by true here rest = here
    by false here rest = rest

row_sound : (on_type : Bool) (name : List ℕ) → SoundIfSome (row_of on_type name)
row_sound true name = found_sound (λ row. bytes_eq name row.name) type_options sound_type_options
row_sound false name = found_sound (λ row. bytes_eq name row.name) options sound_options

after_sound : (row : Option Row) (o : Options) (level : Level) (value : OptValue) → SoundIfSome row → AreInRange o → AreInRange (after_of row o level value)
after_sound None o level value sound h = h
after_sound (Some row) o level value sound h = by (allows row.point row.cross level) (accepts row.values value) (row.is_set o) refl
  where
    by : (allowed accepted is_set : Bool) → accepts row.values value ≡ accepted → AreInRange (cond (is_ok (refusal allowed accepted is_set)) (row.with value o) o)
    by true true true e = h
    by true true false e = sound value o e h
    by true false s e = h
    by false a s e = h

option_keeps : (level : Level) (levels : Levels) (o : OptDecl) (s t : Options) → option_set level levels o s ≡ Ok t → AreInRange s → AreInRange t
unfolding option_set
option_keeps level levels o s t e h =
    let v = bind_ok (value_of (seen_by o.on_type levels) o.value) _ t e in
    let kept = after_sound (row_of o.on_type o.name) s level v.0 (row_sound o.on_type o.name) h in
    by (answer s o.on_type level o.name v.0) (after s o.on_type level o.name v.0) v.2 kept
  where
    by : (given : Result (Unit {0}) OptFault) (new : Options) → set_as given new o.at ≡ Ok t → AreInRange new → AreInRange t
    by (Ok done) new e kept = subst AreInRange (ok_is new t e) kept
    by (Err fault) new e kept = absurd cc

pub options_keep : (level : Level) (levels : Levels) (os : List OptDecl) (s t : Options) → options_set level levels os s ≡ Ok t → AreInRange s → AreInRange t
unfolding options_set
options_keep level levels os s t e h = each_keeps (λ k. option_set level levels) AreInRange (λ k o x y e h. option_keeps level levels o x y e h) 0 os s t e h

member_keeps : (levels : Levels) (m : Member) (s t : Options) → member_set levels m s ≡ Ok t → AreInRange s → AreInRange t
member_keeps levels (members.Opt o) s t e h = option_keeps Group levels o s t e h
member_keeps levels (members.Point p) s t e h = subst AreInRange (ok_is s t e) h
member_keeps levels (members.Cross c) s t e h = subst AreInRange (ok_is s t e) h

pub group_keeps : (levels : Levels) (ms : List Member) (t : Options) → group_options levels ms ≡ Ok t → AreInRange t
unfolding group_options
group_keeps levels ms t e = each_keeps (λ k. member_set levels) AreInRange (λ k m x y e h. member_keeps levels m x y e h) 0 ms defaults t e (omega arith, omega arith, omega arith)

-- What tests of the parts of a record have shown.
use Rattle.std.proofs.Common.{◌≡◌, ◌↔◌, ℕ, ◌+◌, ◌-◌, ◌^◌, ◌<◌, ◌≤◌, zero, suc, Bool, true, false, leb, eqb, cond, List, [], ◌∷◌, ◌++◌, length, get_or, take, Option, Some, None, refl, sym, ◌∙◌, arith}
use Rattle.std.specs.Prelude.{slice_get, IsSomeAnd}
use Rattle.std.specs.List.{AllByRecursion, position}
use Rattle.std.proofs.lemmas.Bool.{leb-true, le-leb}
use Rattle.std.proofs.lemmas.List.{take_more, take_all}
use Rattle.cov_ground.specs.Limits.{most_arguments}
use Rattle.record_codec.specs.declared.record.Start.{Start}
use Rattle.record_codec.specs.declared.record.SignalRow.{SignalRow}
use Rattle.record_codec.specs.declared.record.ArgRow.{ArgRow}
use Rattle.record_codec.specs.declared.record.InstRow.{InstRow}
use Rattle.record_codec.specs.declared.record.Event.{Event}
use Rattle.record_codec.specs.declared.record.Event.TheVariants.{Set, Sample}
use Rattle.record_codec.specs.Limits.{IsText, IsSignalRow, IsInstRow, IsBits, AreArgs, IsEvent, HasFewArgs, IsStart, most_args}
use Rattle.record_codec.specs.Starts.{with_events, IsTest}
use Rattle.record_codec.specs.Reading.{is_bad}
use Rattle.record_codec.specs.Under.{greatest}
use Rattle.record_codec.proofs.EventLaws.{below_power}
use Rattle.record_codec.proofs.Under.{below_same}
use Rattle.record_codec.proofs.Texts.{no_bad, good_none}

-- ---- texts

module _ (least most low : ℕ) (text : List ℕ) (long : least ≤ length text) (short : length text ≤ most) where
  pub text_is : None ≡ position (is_bad low) text → IsText least most low text
  text_is e = record { long_enough = long; short_enough = short; bytes = no_bad low text (sym e) }

  pub text_not : (bad : ℕ) → Some bad ≡ position (is_bad low) text → IsText least most low text → ⊥
  text_not bad e h = absurd (none_some (sym (good_none low text h.bytes) ∙ sym e))
    where
      none_some : {x : ℕ} → None ≡ Some x → ⊥
      none_some e = cc

-- ---- values

pub bits_test : (width n : ℕ) → n < 2 ^ 64 → (leb n (greatest width) ≡ true) ↔ n < 2 ^ width
bits_test width n lt =
    (λ e. below_power width n (leb-true n (2 ^ width - 1) (sym (below_same width n lt) ∙ e)), λ h. below_same width n lt ∙ le-leb n (2 ^ width - 1) (omega (arith, h)))

pub args_length : (rows : List ArgRow) (args : List (Option ℕ)) → AreArgs rows args → length rows ≡ length args
args_length [] [] h = refl
args_length [] (arg ∷ args) h = absurd h
args_length (row ∷ rows) [] h = absurd h
args_length (row ∷ rows) (arg ∷ args) h = omega (arith, args_length rows args h.1)

pub args_at : (rows : List ArgRow) (args : List (Option ℕ)) (i : ℕ) (d : ArgRow) (o : Option ℕ) → AreArgs rows args → i < length rows → IsBits (get_or rows i d).width (get_or args i o)
args_at [] args i d o h lt = absurd (omega (arith, lt))
args_at (row ∷ rows) [] i d o h lt = absurd h
args_at (row ∷ rows) (arg ∷ args) zero d o h lt = h.0
args_at (row ∷ rows) (arg ∷ args) (suc i) d o h lt = args_at rows args i d o h.1 (omega (arith, lt))

args_snoc : (rows : List ArgRow) (args : List (Option ℕ)) (row : ArgRow) (arg : Option ℕ) → AreArgs rows args → IsBits row.width arg → AreArgs (rows ++ row ∷ []) (args ++ arg ∷ [])
args_snoc [] [] row arg h b = (b, tt)
args_snoc [] (arg2 ∷ args) row arg h b = absurd h
args_snoc (row2 ∷ rows) [] row arg h b = absurd h
args_snoc (row2 ∷ rows) (arg2 ∷ args) row arg h b = (h.0, args_snoc rows args row arg h.1 b)

pub args_more : (rows : List ArgRow) (args : List (Option ℕ)) (i : ℕ) (d : ArgRow) (o : Option ℕ) → length rows ≡ length args → i < length rows → AreArgs (take i rows) (take i args) → IsBits (get_or rows i d).width (get_or args i o) → AreArgs (take (i + 1) rows) (take (i + 1) args)
args_more rows args i d o same lt h b = rw (take_more rows i d lt, take_more args i o (omega (arith, same, lt))) (args_snoc (take i rows) (take i args) (get_or rows i d) (get_or args i o) h b)

pub args_done : (rows : List ArgRow) (args : List (Option ℕ)) (i : ℕ) → length rows ≡ length args → length rows ≤ i → AreArgs (take i rows) (take i args) → AreArgs rows args
args_done rows args i same le h = rw (take_all i rows le, take_all i args (omega (arith, same, le))) at h

-- ---- events

row_at : {X : Type 0} (P Q : X → Type 0) (rows : List X) (n : ℕ) → AllByRecursion P rows → IsSomeAnd (slice_get rows n) Q → (row : X) × P row × Q row
row_at P Q [] n each h = absurd h
row_at P Q (row ∷ rows) zero each h = (row, each.0, h)
row_at P Q (row ∷ rows) (suc n) each h = row_at P Q rows n each.1 h

few_of : (version : ℕ) → most_args version ≤ most_arguments
few_of version = by (eqb version 1)
  where
    by : (b : Bool) → cond b 0 most_arguments ≤ most_arguments
    by true = omega arith
    by false = omega arith

pub few_args : (version : ℕ) (signals : List SignalRow) (instances : List InstRow) (e : Event) → AllByRecursion (IsInstRow version) instances → IsEvent signals instances e → HasFewArgs e
few_args version signals instances (Set signal value) rows h = tt
few_args version signals instances (Sample instance args) rows h =
    let at = row_at (IsInstRow version) (λ (row : InstRow). AreArgs row.args args) instances instance rows h in
    omega (arith, at.1.arg_count, few_of version, args_length at.0.args args at.2)

-- ---- starts

pub start_is : (s : Start) → s.seed < 2 ^ 64 → s.time < 2 ^ 64 → IsTest s → (length s.signals ≤ 4096) × AllByRecursion IsSignalRow s.signals → (length s.instances ≤ 1024) × AllByRecursion (IsInstRow s.version) s.instances → IsStart (with_events s [])
start_is s seed time test signals instances = record {
  some = test.some;
  version = test.version;
  id = test.id;
  status = test.status;
  seed = seed;
  time = time;
  user = test.user;
  signal_count = signals.0;
  signals = signals.1;
  instance_count = instances.0;
  instances = instances.1;
}

pub start_test : (s : Start) → IsStart (with_events s []) → IsTest s
start_test s h = record { some = h.some; version = h.version; id = h.id; status = h.status; user = h.user }

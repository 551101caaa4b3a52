-- The signals and the instances.
use Rattle.std.proofs.Common.{◌≡◌, ℕ, cond, zero, suc, ◌<◌, ◌≤◌, Bool, true, false, eqb, List, [], ◌∷◌, ◌++◌, length, Ok, refl, sym, ap, subst, ◌∙◌, arith}
use Rattle.std.specs.List.{flat_map, AllByRecursion}
use Rattle.std.specs.Int.{Width, w8}
use Rattle.record_codec.specs.declared.record.SignalRow.{SignalRow}
use Rattle.record_codec.specs.declared.record.ArgRow.{ArgRow}
use Rattle.record_codec.specs.declared.record.InstRow.{InstRow}
use Rattle.record_codec.specs.Limits.{IsArgRow, IsSignalRow, IsInstRow, most_args}
use Rattle.record_codec.specs.Bytes.{text, flag, arg_row, signal_row, arg_table, inst_row, signal_table, instance_table}
use Rattle.record_codec.specs.Reading.{Reader, ◌>>=◌, number_within, text_at, counted, arg_at, signal_at, signals_at, listed_args_at, args_at, instance_at, instances_at}
use Rattle.record_codec.proofs.Readers.{IsBytes, bind_ok, ok_is, Takes, Takes-then, Read, IsField, step, last}
use Rattle.record_codec.proofs.Numbers.{IsWithin, IsWide, one_byte, wide8, wide16, within_field}
use Rattle.record_codec.proofs.Texts.{text_field}
use Rattle.record_codec.proofs.Counts.{counted_takes, counted_again}

flag_back : (n : ℕ) → n ≤ 1 → flag (eqb n 1) ≡ n
flag_back zero le = refl
flag_back (suc zero) le = refl
flag_back (suc (suc n)) le = absurd (omega arith)

flag_below : (b : Bool) → IsWithin 0 1 (flag b)
flag_below true = record { low = omega arith; high = omega arith }
flag_below false = record { low = omega arith; high = omega arith }

flag_again : (b : Bool) → eqb (flag b) 1 ≡ b
flag_again true = refl
flag_again false = refl

-- ---- arguments

arg_takes : (bytes : List ℕ) (x : ArgRow × List ℕ) → IsBytes bytes → arg_at bytes ≡ Ok x → Read arg_row IsArgRow bytes x
unfolding arg_at
arg_takes bytes x fits e =
    let a = bind_ok (number_within w8 1 64 bytes) _ x e in
    let b = bind_ok (number_within w8 0 1 a.0.1) _ x a.2 in
    let width = (within_field wide8 1 64 (omega arith)).takes bytes a.0 fits a.1 in
    let sign = (within_field wide8 0 1 (omega arith)).takes a.0.1 b.0 width.takes.rest_fits b.1 in
    let all : Takes bytes (a.0.0 ∷ b.0.0 ∷ []) b.0.1 = Takes-then width.takes sign.takes in
    let row : ArgRow = record { width = a.0.0; signed = eqb b.0.0 1 } in
    let spelled : Takes bytes (arg_row row) b.0.1 = subst (λ (n : ℕ). Takes bytes (a.0.0 ∷ n ∷ []) b.0.1) (sym (flag_back b.0.0 sign.fits.high)) all in
    let within : IsArgRow row = record { some = width.fits.low; width = width.fits.high } in
    subst (λ (y : ArgRow × List ℕ). Read arg_row IsArgRow bytes y) {x = (row, b.0.1)} (ok_is (row, b.0.1) x b.2) (record { takes = spelled; fits = within })

arg_again : (row : ArgRow) (rest : List ℕ) → IsArgRow row → arg_at (arg_row row ++ rest) ≡ Ok (row, rest)
unfolding arg_at
arg_again row rest fits =
    step (within_field wide8 1 64 (omega arith)) row.width (flag row.signed ∷ []) rest _ (record { low = fits.some; high = fits.width })
    ∙ last (within_field wide8 0 1 (omega arith)) (flag row.signed) rest _ (flag_below row.signed)
    ∙ ap (λ (b : Bool). Ok (record { width = row.width; signed = b }, rest)) (flag_again row.signed)

pub arg_field : IsField arg_at arg_row IsArgRow
arg_field = record { takes = arg_takes; again = arg_again }

-- ---- signals

abbrev form_of : SignalRow → ArgRow
form_of row = record { width = row.width; signed = row.signed }

signal_takes : (bytes : List ℕ) (x : SignalRow × List ℕ) → IsBytes bytes → signal_at bytes ≡ Ok x → Read signal_row IsSignalRow bytes x
unfolding signal_at
signal_takes bytes x fits e =
    let a = bind_ok (text_at 1 1024 33 bytes) _ x e in
    let b = bind_ok (arg_at a.0.1) _ x a.2 in
    let name = (text_field 1 1024 33 (omega arith)).takes bytes a.0 fits a.1 in
    let form = arg_field.takes a.0.1 b.0 name.takes.rest_fits b.1 in
    let row : SignalRow = record { name = a.0.0; width = b.0.0.width; signed = b.0.0.signed } in
    let within : IsSignalRow row = record { name = name.fits; some = form.fits.some; width = form.fits.width } in
    subst (λ (y : SignalRow × List ℕ). Read signal_row IsSignalRow bytes y) {x = (row, b.0.1)} (ok_is (row, b.0.1) x b.2) (record { takes = Takes-then name.takes form.takes; fits = within })

signal_again : (row : SignalRow) (rest : List ℕ) → IsSignalRow row → signal_at (signal_row row ++ rest) ≡ Ok (row, rest)
unfolding signal_at
signal_again row rest fits =
    step (text_field 1 1024 33 (omega arith)) row.name (arg_row (form_of row)) rest _ fits.name
    ∙ last arg_field (form_of row) rest _ (record { some = fits.some; width = fits.width })

pub signal_field : IsField signal_at signal_row IsSignalRow
signal_field = record { takes = signal_takes; again = signal_again }

-- at most so many rows, each within its limits
pub record AreRows {A : Type 0} (Fits : A → Type 0) (most : ℕ) (rows : List A) : Type 0 where
  pub count : length rows ≤ most
  pub all : AllByRecursion Fits rows

-- rows behind their number, which has this width
abbrev table_at : {A : Type 0} → Width → Reader A → ℕ → Reader (List A)
table_at w read most bytes = number_within w 0 most bytes >>= λ n. counted read n.0 n.1

abbrev table : {A : Type 0} → (ℕ → List ℕ) → (A → List ℕ) → List A → List ℕ
table number spelled rows = number (length rows) ++ flat_map spelled rows

table_takes : {A : Type 0} {w : Width} {number : ℕ → List ℕ} {limit : ℕ} {read : Reader A} {spelled : A → List ℕ} {Fits : A → Type 0} → IsWide w number limit → IsField read spelled Fits
    → (most : ℕ) → most < limit → (bytes : List ℕ) (x : List A × List ℕ) → IsBytes bytes → table_at w read most bytes ≡ Ok x → Read (table number spelled) (AreRows Fits most) bytes x
table_takes {w = w} {number = number} {spelled = spelled} wide field most lt bytes x fits e =
    let a = bind_ok (number_within w 0 most bytes) _ x e in
    let count = (within_field wide 0 most lt).takes bytes a.0 fits a.1 in
    let rows = counted_takes field a.0.0 a.0.1 x count.takes.rest_fits a.2 in
    let all : Takes bytes (number a.0.0 ++ flat_map spelled x.0) x.1 = Takes-then count.takes rows.takes in
    record {
      takes = subst (λ (n : ℕ). Takes bytes (number n ++ flat_map spelled x.0) x.1) (sym rows.many) all;
      fits = record { count = omega (arith, rows.many, count.fits.high); all = rows.fits };
    }

table_again : {A : Type 0} {w : Width} {number : ℕ → List ℕ} {limit : ℕ} {read : Reader A} {spelled : A → List ℕ} {Fits : A → Type 0} → IsWide w number limit → IsField read spelled Fits
    → (most : ℕ) → most < limit → (rows : List A) (rest : List ℕ) → AreRows Fits most rows → table_at w read most (table number spelled rows ++ rest) ≡ Ok (rows, rest)
table_again {spelled = spelled} wide field most lt rows rest fits =
    step (within_field wide 0 most lt) (length rows) (flat_map spelled rows) rest _ (record { low = omega arith; high = fits.count })
    ∙ counted_again field rows rest fits.all

table_field : {A : Type 0} {w : Width} {number : ℕ → List ℕ} {limit : ℕ} {read : Reader A} {spelled : A → List ℕ} {Fits : A → Type 0} → IsWide w number limit → IsField read spelled Fits
    → (most : ℕ) → most < limit → IsField (table_at w read most) (table number spelled) (AreRows Fits most)
table_field wide field most lt = record { takes = table_takes wide field most lt; again = table_again wide field most lt }

pub signals_field : IsField signals_at signal_table (AreRows IsSignalRow 4096)
unfolding signals_at
signals_field = table_field wide16 signal_field 4096 (omega arith)

-- ---- instances

listed_args_field : IsField listed_args_at (table one_byte arg_row) (AreRows IsArgRow 16)
unfolding listed_args_at
listed_args_field = table_field wide8 arg_field 16 (omega arith)

abbrev AreArgRows : ℕ → List ArgRow → Type 0
AreArgRows version = AreRows IsArgRow (most_args version)

no_rows : (rows : List ArgRow) → length rows ≤ 0 → [] ≡ rows
no_rows [] le = refl
no_rows (row ∷ rows) le = absurd (omega arith)

-- the arguments by whether the version is 1
abbrev args_by : Bool → Reader (List ArgRow)
args_by b bytes = cond b (Ok ([], bytes)) (listed_args_at bytes)

abbrev table_by : Bool → List ArgRow → List ℕ
table_by b rows = cond b [] (table one_byte arg_row rows)

args_by_field : (b : Bool) → IsField (args_by b) (table_by b) (AreRows IsArgRow (cond b 0 16))
args_by_field true = record {
  takes = λ bytes x fits e. subst (λ (y : List ArgRow × List ℕ). Read (table_by true) (AreRows IsArgRow 0) bytes y) {x = ([], bytes)} (ok_is ([], bytes) x e)
      (record { takes = record { parts = refl; rest_fits = fits }; fits = record { count = omega arith; all = tt } });
  again = λ rows rest fits. ap (λ (l : List ArgRow). Ok (l, rest)) (no_rows rows fits.count);
}
args_by_field false = listed_args_field

args_field : (version : ℕ) → IsField (args_at version) (arg_table version) (AreArgRows version)
unfolding args_at
args_field version = args_by_field (eqb version 1)

instance_takes : (version : ℕ) (bytes : List ℕ) (x : InstRow × List ℕ) → IsBytes bytes → instance_at version bytes ≡ Ok x → Read (inst_row version) (IsInstRow version) bytes x
unfolding instance_at
instance_takes version bytes x fits e =
    let a = bind_ok (text_at 1 1024 33 bytes) _ x e in
    let b = bind_ok (text_at 1 1024 33 a.0.1) _ x a.2 in
    let c = bind_ok (args_at version b.0.1) _ x b.2 in
    let name = (text_field 1 1024 33 (omega arith)).takes bytes a.0 fits a.1 in
    let group = (text_field 1 1024 33 (omega arith)).takes a.0.1 b.0 name.takes.rest_fits b.1 in
    let args = (args_field version).takes b.0.1 c.0 group.takes.rest_fits c.1 in
    let row : InstRow = record { name = a.0.0; group = b.0.0; args = c.0.0 } in
    let spelled : Takes bytes (inst_row version row) c.0.1 = Takes-then name.takes (Takes-then group.takes args.takes) in
    let within : IsInstRow version row = record { name = name.fits; group = group.fits; arg_count = args.fits.count; args = args.fits.all } in
    subst (λ (y : InstRow × List ℕ). Read (inst_row version) (IsInstRow version) bytes y) {x = (row, c.0.1)} (ok_is (row, c.0.1) x c.2) (record { takes = spelled; fits = within })

instance_again : (version : ℕ) (row : InstRow) (rest : List ℕ) → IsInstRow version row → instance_at version (inst_row version row ++ rest) ≡ Ok (row, rest)
unfolding instance_at
instance_again version row rest fits =
    step (text_field 1 1024 33 (omega arith)) row.name (text row.group ++ arg_table version row.args) rest _ fits.name
    ∙ step (text_field 1 1024 33 (omega arith)) row.group (arg_table version row.args) rest _ fits.group
    ∙ last (args_field version) row.args rest _ (record { count = fits.arg_count; all = fits.args })

pub instance_field : (version : ℕ) → IsField (instance_at version) (inst_row version) (IsInstRow version)
instance_field version = record { takes = instance_takes version; again = instance_again version }

pub instances_field : (version : ℕ) → IsField (instances_at version) (instance_table version) (AreRows (IsInstRow version) 1024)
unfolding instances_at
instances_field version = table_field wide16 (instance_field version) 1024 (omega arith)

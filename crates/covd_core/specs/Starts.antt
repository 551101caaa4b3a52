-- How the server begins: its words, and the design that they name with its text. The steps are: words, load of the
-- design, compiling. The first step that refuses decides.
use Rattle.std.specs.Prelude.{◌≡◌, ℕ, ◌<◌, ◌≤◌, List, length, Option, Some, None, Result, Ok, Err, slice_get}
use Rattle.cov_spec.specs.Causes.{Rose}
use Rattle.cov_spec.specs.Told.{Grows, GrowsByFront, Stays}
use Rattle.cov_base.specs.Loads.{HasFile}
use Rattle.covd_commands.specs.Compiling.{Compiles}
use Rattle.covd_commands.specs.Texts.{Declared}
use Rattle.cov_ground.specs.Limits.{longest_design}
use Rattle.cov_serve.specs.Seats.{most_callers}
use Rattle.cov_serve.specs.declared.words.ServeWords.{ServeWords}
use Rattle.cov_serve.specs.Words.{served_by}
use Rattle.covd_commands.specs.declared.status.Status.{Status}
use Rattle.covd_commands.specs.declared.status.Status.TheVariants as status
use Rattle.covd_core.specs.declared.starting.HadCompiled.{HadCompiled}
use Rattle.covd_core.specs.declared.starting.HadCompiled.TheVariants as had
use Rattle.covd_core.specs.declared.starting.Begun.{Begun}
use Rattle.covd_core.specs.declared.starting.Begun.TheVariants as begun
use Rattle.covd_commands.specs.Lines.{bad_words_text}
use Rattle.covd_commands.specs.FromFiles.{Files, NoDesign}
use Rattle.covd_core.specs.Command.{Ends}

-- the file of that name has the text, which declares the design
pub record HasOpening (files : Files) (name : List ℕ) (c : Declared) : Type 0 where
  pub file : HasFile files name c.text
  pub short : length c.text ≤ longest_design
  pub declares : Compiles c.text (Ok c.design)

-- a text with its design from its file, or the answer that it can't be had
abbrev pub IsHadCompiled : Files → ℕ → ℕ → List ℕ → HadCompiled → Type 0
IsHadCompiled files before now name (had.Compiled c) = HasOpening files name c
IsHadCompiled files before now name (had.Refused a) = NoDesign files before now name a.status a.text.items

-- what the words say, and the name of the design among them
pub record Names (words : List (List ℕ)) (w : ServeWords) (name : List ℕ) : Type 0 where
  pub says : served_by words ≡ Some w
  pub named : slice_get words w.design ≡ Some name

-- status and text where the words name a design that can't be had
pub record Unnamed (words : List (List ℕ)) (files : Files) (before now : ℕ) (s : Status) (text : List ℕ) : Type 0 where
  pub w : ServeWords
  pub name : List ℕ
  pub names : Names words w name
  pub none : NoDesign files before now name s text

-- status and text where the server can't begin
abbrev pub RefusesStart : List (List ℕ) → Files → ℕ → ℕ → Status → List ℕ → Type 0
RefusesStart words files before now status.BadWords text = (served_by words ≡ None) × (text ≡ bad_words_text)
RefusesStart words files before now s text = Unnamed words files before now s text

-- the words name the design that was had
pub record Readies (words : List (List ℕ)) (files : Files) (w : ServeWords) (c : Declared) : Type 0 where
  pub name : List ℕ
  pub names : Names words w name
  pub had : HasOpening files name c

-- the address is one of so many words, and there is a seat, and as many as those of a server at most
abbrev pub IsServable : (count : ℕ) → ServeWords → Type 0
IsServable count w = (w.listen < count) × (1 ≤ w.seats) × (w.seats ≤ most_callers)

abbrev pub ready_words : Begun → Option ServeWords
ready_words (begun.Ready w c) = Some w
ready_words (begun.Refused a) = None

abbrev pub IsBegun : List (List ℕ) → Files → ℕ → ℕ → Begun → Type 0
IsBegun words files before now (begun.Ready w c) = Readies words files w c
IsBegun words files before now (begun.Refused a) = RefusesStart words files before now a.status a.text.items

-- What the beginning leaves. Where the design was had, or memory ran out: nothing is written. Where a write failed, its
-- count having risen: some of the line from the front. Else: the line whose status it is.
abbrev pub Starts : List (List ℕ) → Files → ℕ → ℕ → Ends → Ends → Result (ServeWords × Declared) Status → Type 0
Starts words files before now e e' (Ok p) = Readies words files p.0 p.1 × Stays e.written e'.written
Starts words files before now e e' (Err status.Memory) = Stays e.written e'.written
Starts words files before now e e' (Err status.WriteFault) = Rose e.write_faults e'.write_faults × (s : Status) × (text : List ℕ) × RefusesStart words files before now s text × GrowsByFront e.written e'.written text
Starts words files before now e e' (Err s) = (text : List ℕ) × RefusesStart words files before now s text × Grows e.written e'.written text

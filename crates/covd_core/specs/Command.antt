-- What a command answers: a status and a text, from its words and the files of a shelf. The steps are: words, load of
-- the design, compiling; for `count` load of the record, decoding and shape; for `report` and `export` load and reading of
-- the waivers, then load, decoding and shape of a record and its admission, record by record; for `make` the making and the admission of each; for `record` load of the dump, reading it
-- and making its record; then printing. The first step that refuses decides; with `--keep-going` a record that is refused
-- is left out instead.
use Rattle.std.specs.Prelude.{◌≡◌, ◌⊎◌, ℕ, List, [], ◌∷◌, ◌++◌, map, replicate, Option, Some, None, Result, Ok, Err, Bool, nat_lt, if◌then◌else◌}
use Rattle.cov_spec.specs.Causes.{Rose}
use Rattle.cov_spec.specs.Told.{Grows, GrowsByFront, Stays}
use Rattle.design_data.specs.declared.design.Design.{Design}
use Rattle.covd_commands.specs.declared.status.Status.{Status}
use Rattle.covd_commands.specs.declared.status.Status.TheVariants as status
use Rattle.cov_history.specs.declared.entry.Entry.{Entry}
use Rattle.cov_report.specs.Report.{report_text, short_text}
use Rattle.sha2.specs.Sha256.{sha256}
use Rattle.export_lists.specs.Bins.{bins_text}
use Rattle.export_lists.specs.Holes.{holes_text}
use Rattle.export_json.specs.Export.{json_of}
use Rattle.export_ucis.specs.Export.{ucis_text}
use Rattle.export_page.specs.Page.{page_text}
use Rattle.store_views.specs.Views.{rows_at}
use Rattle.cov_history.specs.Answers.{nodes_at}
use Rattle.covd_commands.specs.Options.{Options}
use Rattle.covd_commands.specs.declared.forms.Form.{Form}
use Rattle.covd_commands.specs.declared.forms.Form.TheVariants as form
use Rattle.covd_commands.specs.declared.listing.Listing.{Listing}
use Rattle.covd_commands.specs.Forms.{IsReportCommand, IsExportCommand, IsMakeCommand, IsNoReport, IsNoExport, IsNoMake}
use Rattle.covd_filling.specs.Outcomes.{Filled, nothing_yet, Shown, Fills}
use Rattle.waivers.specs.declared.waiver.Waiver.{Waiver}
use Rattle.store_waivers.specs.Waived.{Limit, waiving}
use Rattle.store_waivers.specs.Lines.{waiver_lines, hit_lines, unwaived_line, full_line}
use Rattle.covd_core.specs.Waived.{NamesWaivers, NoWaivers}
use Rattle.covd_commands.specs.Lines.{bad_words_text}
pub use Rattle.covd_commands.specs.FromFiles.{Files, IsUnread, NotLoaded, HasDesign, HasNoDesign, NoDesign, HasRecord, IsRefusedText, HasNoRecord}
pub use Rattle.covd_commands.specs.Listings.{IsListCommand, IsNoList, Lists}
pub use Rattle.covd_commands.specs.Commands.{IsCountCommand, IsRecordCommand, IsNoCount, IsNoRecord, IsCountText, Counts, Records}
pub use Rattle.covd_commands.specs.Finding.{Origin, File, Made, Finds, IsTooMuch, FindsNone}

-- ---- words

abbrev pub IsNoCommand : List (List ℕ) → Type 0
IsNoCommand words = IsNoList words × IsNoCount words × IsNoRecord words × IsNoReport words × IsNoExport words × IsNoMake words

-- ---- what is shown of a store that is filled

-- what is shown beside a history: the lines of records that were left out, and of waivers; and what stands below the coverage of all
pub record Beside : Type 0 where
  pub notes : List ℕ
  pub below : List ℕ

-- the text of a history in a form, as the options ask; `source` is the text of the design
abbrev pub form_text : Options → Form → (source : List ℕ) → Beside → Design → List Entry → List ℕ
form_text options form.Report source beside = (if options.short then short_text else report_text) beside.notes beside.below
form_text options form.Bins source beside = bins_text
form_text options form.Holes source beside = holes_text
form_text options form.Json source beside = λ d h. json_of d h (sha256 source)
form_text options form.Ucis source beside = ucis_text
form_text options form.Html source beside = λ d h. page_text d h (sha256 source)

-- how coverage overall ends where a goal is set, or none is
abbrev pub reached : (overall : ℕ) → (goal : Option ℕ) → Status
reached overall None = status.Done
reached overall (Some goal) = if nat_lt overall goal then status.BelowGoal else status.Done

-- how a command ends that shows all: where a record couldn't be taken in, that comes first
abbrev pub shown_status : (partly : Bool) → (overall : ℕ) → (goal : Option ℕ) → Status
shown_status partly overall goal = if partly then status.Partly else reached overall goal

-- what is shown of a history in a form, as the options ask
abbrev pub shown_at : Options → Form → (source : List ℕ) → (partly : Bool) → Beside → Design → List Entry → Status × List ℕ
shown_at options form source partly beside d h =
    (shown_status partly (rows_at d h 0).millionths options.goal, form_text options form source beside d h)

-- the same behind an Exclude of each node that a waiver leaves out; or the limit that they would pass
abbrev pub shown_waived : Options → Form → (source : List ℕ) → List Waiver → Design → Filled → Result (List Entry) Limit → Status × List ℕ
shown_waived options form source waivers d f (Ok h) =
    shown_at options form source f.partly
    (record {
      notes = f.left ++ (waiver_lines (nodes_at d f.history) waivers ++ hit_lines d h);
      below = unwaived_line (rows_at d f.history 0).millionths;
    }) d h
shown_waived options form source waivers d f (Err limit) = (status.WaiversRefused, full_line limit.which limit.have limit.want)

-- what is shown of a store that is filled, with the waivers of a file, where one is named
abbrev pub shown_by : Options → Form → (source : List ℕ) → Option (List Waiver) → Shown
shown_by options form source None d f = shown_at options form source f.partly (record { notes = f.left; below = [] }) d f.history
shown_by options form source (Some waivers) d f = shown_waived options form source waivers d f (waiving d f.history waivers)

-- ---- the whole

-- Status and text of a command that fills a store over this design with the records that come from there, and shows it in
-- this form as the options ask.
abbrev pub Reports : Files → ℕ → ℕ → Options → Form → (design : List ℕ) → List Origin → Status → List ℕ → Type 0
Reports files before now options form design origins s text =
    NoDesign files before now design s text
    ⊎ ((d : Design) × (has : HasDesign files design d)
    × (NoWaivers files before now options.waivers s text
    ⊎ ((waivers : Option (List Waiver)) × NamesWaivers files options.waivers waivers
    × Fills (shown_by options form has.text waivers) options files before now d 1 nothing_yet origins s text)))

-- Status and text of `report DESIGN RECORD ..`, of `export FORM DESIGN RECORD ..`, and of `make DESIGN SEED EVENTS TESTS`,
-- with options behind the command's word.
abbrev pub FillAnswers : List (List ℕ) → Files → ℕ → ℕ → Status → List ℕ → Type 0
FillAnswers words files before now s text =
    ((options : Options) × (design : List ℕ) × (names : List (List ℕ)) × IsReportCommand words options design names
    × Reports files before now options form.Report design (map File names) s text)
    ⊎ (((options : Options) × (form : Form) × (design : List ℕ) × (names : List (List ℕ)) × IsExportCommand words options form design names
    × Reports files before now options form design (map File names) s text)
    ⊎ ((options : Options) × (design : List ℕ) × (seed rounds tests : ℕ) × IsMakeCommand words options design seed rounds tests
    × Reports files before now options form.Report design (replicate tests (Made seed rounds)) s text))

-- Status and text of any words; `before` and `now` are the counts of the shelf's faults.
abbrev pub Answers : List (List ℕ) → Files → ℕ → ℕ → Status → List ℕ → Type 0
Answers words files before now s text =
    (IsNoCommand words × (s ≡ status.BadWords) × (text ≡ bad_words_text))
    ⊎ (((listing : Listing) × (design : List ℕ) × IsListCommand words listing design × Lists files before now listing design s text)
    ⊎ (((design rec : List ℕ) × IsCountCommand words design rec × Counts files before now design rec s text)
    ⊎ (((design dump scope id : List ℕ) × IsRecordCommand words design dump scope id × Records files before now design dump scope id s text)
    ⊎ FillAnswers words files before now s text)))

-- what a link tells at a moment, and its counts of failures
pub record Ends : Type 0 where
  pub left : Option (List ℕ)
  pub written : Option (List ℕ)
  pub read_faults : ℕ
  pub write_faults : ℕ

-- the same of a link of any kind
abbrev pub ends_of : {L : Type 0} → (left written : L → Option (List ℕ)) → (read_faults write_faults : L → ℕ) → L → Ends
ends_of left written read_faults write_faults link = record { left = left link; written = written link; read_faults = read_faults link; write_faults = write_faults link }

-- What a run leaves in the sink. Where memory ran out: nothing. Where the sink failed, its count having risen: some of
-- the answer's text from the front. Else: the whole text of the answer, whose status it is.
abbrev pub Leaves : List (List ℕ) → Files → ℕ → ℕ → Ends → Ends → Status → Type 0
Leaves words files before now e e' status.Memory = Stays e.written e'.written
Leaves words files before now e e' status.WriteFault = Rose e.write_faults e'.write_faults × (s : Status) × (text : List ℕ) × Answers words files before now s text × GrowsByFront e.written e'.written text
Leaves words files before now e e' s = (text : List ℕ) × Answers words files before now s text × Grows e.written e'.written text

-- Told files and a shelf that didn't fail leave one status and one text to the words.
abbrev pub HasOneAnswer : List (List ℕ) → Files → ℕ → ℕ → Type 0
HasOneAnswer words files before now =
    (all : List (List ℕ × List ℕ)) → files ≡ Some all → (Rose before now → ⊥)
    → (s s' : Status) (text text' : List ℕ) → Answers words files before now s text → Answers words files before now s' text' → (s ≡ s') × (text ≡ text')

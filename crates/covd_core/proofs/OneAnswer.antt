-- Told files and a shelf that didn't fail leave one status and one text to the words.
use Rattle.std.proofs.Common.{◌≡◌, ℕ, ◌+◌, List, [], ◌∷◌, length, map, Option, Some, None, inl, inr, refl, sym, ap, subst, ◌∙◌, arith}
use Rattle.std.specs.Prelude.{slice_index, replicate, codes}
use Rattle.cov_spec.specs.Causes.{Rose}
use Rattle.design_data.specs.declared.design.Design.{Design}
use Rattle.covd_commands.specs.declared.status.Status.{Status}
use Rattle.covd_commands.specs.declared.status.Status.TheVariants as status
use Rattle.covd_commands.specs.Lines.{bad_words_text}
use Rattle.covd_commands.specs.FromFiles.{Files}
use Rattle.cov_spec.specs.Files.{file_of}
use Rattle.covd_commands.specs.Options.{Options}
use Rattle.covd_commands.specs.declared.forms.Form.{Form}
use Rattle.covd_commands.specs.declared.forms.Form.TheVariants as form
use Rattle.covd_commands.specs.declared.listing.Listing.{Listing}
use Rattle.covd_commands.specs.Listings.{listing_of, IsListCommand, Lists}
use Rattle.covd_commands.specs.Commands.{IsCountCommand, IsRecordCommand, Counts, Records}
use Rattle.covd_core.specs.Command.{shown_by, IsNoCommand, Answers, HasOneAnswer, Reports}
use Rattle.covd_core.specs.Waived.{NamesWaivers, NoWaivers}
use Rattle.covd_core.proofs.Waived.{waivers_one, no_waivers_one, waivers_or_none}
use Rattle.covd_filling.specs.Outcomes.{nothing_yet, Fills}
use Rattle.covd_filling.proofs.OneFilling.{fills_one}
use Rattle.waivers.specs.declared.waiver.Waiver.{Waiver}
use Rattle.covd_commands.specs.Digits.{written, bounded}
use Rattle.covd_commands.specs.Forms.{form_of, IsReportCommand, IsExportCommand, IsMakeCommand}
use Rattle.covd_commands.specs.Finding.{Origin, File, Made}
use Rattle.covd_commands.proofs.NoForm.{asked_once}
use Rattle.covd_commands.proofs.Refusals.{IsReading}
use Rattle.covd_commands.proofs.OneEach.{Told, Family, IsOne, AreApart, Either, either_one, apart_both, WithDesign, with_one, list_one, count_one, record_one_answer}

-- ---- report, export and make

module _ (spells : IsReading) (all : Told) (options : Options) (form : Form) (design : List ℕ) (before now : ℕ) (calm : Rose before now → ⊥) (origins : List Origin) where
  -- how the command ends with the design, whose file is this text, and with these waivers
  pub record Shows (d : Design) (s : Status) (text : List ℕ) : Type 0 where
    source : List ℕ
    file : file_of all design ≡ Some source
    waivers : Option (List Waiver)
    has : NamesWaivers (Some all) options.waivers waivers
    fills : Fills (shown_by options form source waivers) options (Some all) before now d 1 nothing_yet origins s text

  same_source : (a b : List ℕ) → file_of all design ≡ Some a → file_of all design ≡ Some b → a ≡ b
  same_source a b e f = cc (e, f)

  abbrev Unread : Family
  Unread s text = NoWaivers (Some all) before now options.waivers s text

  shows_one : (d : Design) → IsOne (Shows d)
  shows_one d s s' text text' a b =
      let source = same_source a.source b.source a.file b.file in
      let waivers = waivers_one all before now calm options.waivers a.waivers b.waivers a.has b.has in
      let of_source = subst (λ (x : List ℕ). Fills (shown_by options form x a.waivers) options (Some all) before now d 1 nothing_yet origins s text) source a.fills in
      let fills = subst (λ (x : Option (List Waiver)). Fills (shown_by options form b.source x) options (Some all) before now d 1 nothing_yet origins s text) waivers of_source in
      fills_one spells all before now calm d (shown_by options form b.source b.waivers) options origins 1 nothing_yet s s' text text' fills b.fills

  unread_or_shown : (d : Design) → AreApart Unread (Shows d)
  unread_or_shown d s s' text text' a b = waivers_or_none all before now calm options.waivers b.waivers s text b.has a

  abbrev Ends : Design → Family
  Ends d = Either Unread (Shows d)

  ends_one : (d : Design) → IsOne (Ends d)
  ends_one d = either_one Unread (Shows d) (no_waivers_one all before now calm options.waivers) (shows_one d) (unread_or_shown d)

  with_text : (s : Status) (text : List ℕ) → Reports (Some all) before now options form design origins s text → WithDesign all design before now calm Ends ends_one s text
  with_text s text h = elim h [
    | inl a ↦ inl a
    | inr a ↦ inr (a.0, a.1, elim a.2 [ inl b ↦ inl b | inr b ↦ inr (record { source = a.1.text; file = a.1.file; waivers = b.0; has = b.1; fills = b.2 }) ])
  ]

  report_one : IsOne (Reports (Some all) before now options form design origins)
  report_one s s' text text' h k = with_one all design before now calm Ends ends_one s s' text text' (with_text s text h) (with_text s' text' k)

-- ---- the words

same_some : (m n : ℕ) → Some m ≡ Some n → m ≡ n
same_some m n e = cc

-- `record` and `report` differ in their third letters
no_report : codes "record" ≡ codes "report" → ⊥
no_report e = let third : 99 ≡ 112 = ap (λ (word : List ℕ). slice_index word 2) e in omega (arith, third)

-- and `export` begins otherwise than both
no_export_record : codes "record" ≡ codes "export" → ⊥
no_export_record e = let first : 114 ≡ 101 = ap (λ (word : List ℕ). slice_index word 0) e in omega (arith, first)

no_export_report : codes "report" ≡ codes "export" → ⊥
no_export_report e = let first : 114 ≡ 101 = ap (λ (word : List ℕ). slice_index word 0) e in omega (arith, first)

-- words of two commands
other_command : (a b : List ℕ) (xs ys words : List (List ℕ)) → (a ≡ b → ⊥) → words ≡ a ∷ xs → words ≡ b ∷ ys → ⊥
other_command a b xs ys words apart e f = let same : a ≡ b = cc (e, f) in apart same

-- a word that lists nothing begins no listing
list_apart : (word : List ℕ) (rest words : List (List ℕ)) (listing : Listing) (design : List ℕ) → listing_of word ≡ None → IsListCommand words listing design → words ≡ word ∷ rest → ⊥
list_apart word rest words listing design none l e =
    let same : l.word ≡ word = cc (l.are, e) in
    let lists = l.lists in
    let given : listing_of l.word ≡ None = ap listing_of same ∙ none in
    cc (lists, given)

module _ (spells : IsReading) (words : List (List ℕ)) (all : Told) (before now : ℕ) (calm : Rose before now → ⊥) where
  abbrev NoCommand : Family
  NoCommand s text = IsNoCommand words × (s ≡ status.BadWords) × (text ≡ bad_words_text)

  abbrev ListCommand : Family
  ListCommand s text = (listing : Listing) × (design : List ℕ) × IsListCommand words listing design × Lists (Some all) before now listing design s text

  abbrev CountCommand : Family
  CountCommand s text = (design rec : List ℕ) × IsCountCommand words design rec × Counts (Some all) before now design rec s text

  abbrev RecordCommand : Family
  RecordCommand s text = (design dump scope id : List ℕ) × IsRecordCommand words design dump scope id × Records (Some all) before now design dump scope id s text

  abbrev ReportCommand : Family
  ReportCommand s text = (options : Options) × (design : List ℕ) × (names : List (List ℕ)) × IsReportCommand words options design names × Reports (Some all) before now options form.Report design (map File names) s text

  abbrev ExportCommand : Family
  ExportCommand s text = (options : Options) × (form : Form) × (design : List ℕ) × (names : List (List ℕ)) × IsExportCommand words options form design names × Reports (Some all) before now options form design (map File names) s text

  abbrev MakeCommand : Family
  MakeCommand s text = (options : Options) × (design : List ℕ) × (seed rounds tests : ℕ) × IsMakeCommand words options design seed rounds tests × Reports (Some all) before now options form.Report design (replicate tests (Made seed rounds)) s text

  none_one : IsOne NoCommand
  none_one s s' text text' a b = (a.1 ∙ sym b.1, a.2 ∙ sym b.2)

  lists_one : IsOne ListCommand
  lists_one s s' text text' a b =
      let l = a.2 in
      let m = b.2 in
      let e = l.are in
      let f = m.are in
      let lists = l.lists in
      let word : m.word ≡ l.word = cc (e, f) in
      let other : listing_of l.word ≡ Some b.0 = ap listing_of (sym word) ∙ m.lists in
      let one : b.0 ≡ a.0 = cc (lists, other) in
      let two : b.1 ≡ a.1 = cc (e, f) in
      let k : Lists (Some all) before now a.0 a.1 s' text' = rw (sym one, sym two) b.3 in
      list_one all a.0 a.1 before now calm s s' text text' a.3 k

  counts_one : IsOne CountCommand
  counts_one s s' text text' a b =
      let one : b.0 ≡ a.0 = cc (a.2, b.2) in
      let two : b.1 ≡ a.1 = cc (a.2, b.2) in
      let k = subst (λ (d : List ℕ). Counts (Some all) before now d a.1 s' text') one (subst (λ (r : List ℕ). Counts (Some all) before now b.0 r s' text') two b.3) in
      count_one spells all a.0 a.1 before now calm s s' text text' a.3 k

  records_one : IsOne RecordCommand
  records_one s s' text text' a b =
      let words_a = a.4.0 in
      let words_b = b.4.0 in
      let one : b.0 ≡ a.0 = cc (words_a, words_b) in
      let two : b.1 ≡ a.1 = cc (words_a, words_b) in
      let three : b.2 ≡ a.2 = cc (words_a, words_b) in
      let four : b.3 ≡ a.3 = cc (words_a, words_b) in
      let k : Records (Some all) before now a.0 a.1 a.2 a.3 s' text' = rw (sym one, sym two, sym three, sym four) b.5 in
      record_one_answer all a.0 a.1 a.2 a.3 before now calm s s' text text' a.5 k

  list_or_count : AreApart ListCommand CountCommand
  list_or_count s s' text text' a b = list_apart (codes "count") (b.0 ∷ b.1 ∷ []) words a.0 a.1 refl a.2 b.2

  list_or_record : AreApart ListCommand RecordCommand
  list_or_record s s' text text' a b = list_apart (codes "record") (b.0 ∷ b.1 ∷ b.2 ∷ b.3 ∷ []) words a.0 a.1 refl a.2 b.4.0

  count_or_record : AreApart CountCommand RecordCommand
  count_or_record s s' text text' a b = let n : length words ≡ 3 = ap length a.2 in let m : length words ≡ 5 = ap length b.4.0 in omega arith

  none_or_list : AreApart NoCommand ListCommand
  none_or_list s s' text text' a b = a.0.0 b.0 b.1 b.2

  none_or_count : AreApart NoCommand CountCommand
  none_or_count s s' text text' a b = a.0.1 b.0 b.1 b.2

  none_or_record : AreApart NoCommand RecordCommand
  none_or_record s s' text text' a b = a.0.2 b.0 b.1 b.2 b.3 b.4

  reports_one : IsOne ReportCommand
  reports_one s s' text text' a b =
      let same = asked_once (codes "report") words b.0 a.0 _ _ b.3.asks a.3.asks in
      let e = same.1 in
      let zero = same.0 in
      let one : b.1 ≡ a.1 = cc e in
      let two : b.2 ≡ a.2 = cc e in
      let k : Reports (Some all) before now a.0 form.Report a.1 (map File a.2) s' text' = rw (sym zero, sym one, sym two) b.4 in
      report_one spells all a.0 form.Report a.1 before now calm (map File a.2) s s' text text' a.4 k

  exports_one : IsOne ExportCommand
  exports_one s s' text text' a b =
      let l = a.4 in
      let m = b.4 in
      let same = asked_once (codes "export") words b.0 a.0 _ _ m.asks l.asks in
      let e = same.1 in
      let forms = l.is_form in
      let word : m.word ≡ l.word = cc e in
      let other : form_of l.word ≡ Some b.1 = ap form_of (sym word) ∙ m.is_form in
      let zero = same.0 in
      let one : b.1 ≡ a.1 = cc (forms, other) in
      let two : b.2 ≡ a.2 = cc e in
      let three : b.3 ≡ a.3 = cc e in
      let k : Reports (Some all) before now a.0 a.1 a.2 (map File a.3) s' text' = rw (sym zero, sym one, sym two, sym three) b.5 in
      report_one spells all a.0 a.1 a.2 before now calm (map File a.3) s s' text text' a.5 k

  makes_one_report : IsOne MakeCommand
  makes_one_report s s' text text' a b =
      let m = a.5 in
      let n = b.5 in
      let same = asked_once (codes "make") words b.0 a.0 _ _ n.asks m.asks in
      let e = same.1 in
      let zero = same.0 in
      let one : b.1 ≡ a.1 = cc e in
      let seeds : n.seed_word ≡ m.seed_word = cc e in
      let rounds : n.rounds_word ≡ m.rounds_word = cc e in
      let tests : n.tests_word ≡ m.tests_word = cc e in
      let two : b.2 ≡ a.2 = same_some _ _ (sym n.seed_is ∙ ap (written 20) seeds ∙ m.seed_is) in
      let three : b.3 ≡ a.3 = same_some _ _ (sym n.rounds_are ∙ ap (λ (word : List ℕ). bounded 0 1048576 (written 7 word)) rounds ∙ m.rounds_are) in
      let four : b.4 ≡ a.4 = same_some _ _ (sym n.tests_are ∙ ap (λ (word : List ℕ). bounded 1 4096 (written 4 word)) tests ∙ m.tests_are) in
      let k : Reports (Some all) before now a.0 form.Report a.1 (replicate a.4 (Made a.2 a.3)) s' text' = rw (sym zero, sym one, sym two, sym three, sym four) b.6 in
      report_one spells all a.0 form.Report a.1 before now calm (replicate a.4 (Made a.2 a.3)) s s' text text' a.6 k

  none_or_report : AreApart NoCommand ReportCommand
  none_or_report s s' text text' a b = a.0.3 b.0 b.1 b.2 b.3

  none_or_export : AreApart NoCommand ExportCommand
  none_or_export s s' text text' a b = a.0.4 b.0 b.1 b.2 b.3 b.4

  none_or_make : AreApart NoCommand MakeCommand
  none_or_make s s' text text' a b = a.0.5 b.0 b.1 b.2 b.3 b.4 b.5

  list_or_report : AreApart ListCommand ReportCommand
  list_or_report s s' text text' a b = list_apart (codes "report") b.3.asks.behind words a.0 a.1 refl a.2 b.3.asks.are

  list_or_export : AreApart ListCommand ExportCommand
  list_or_export s s' text text' a b = list_apart (codes "export") b.4.asks.behind words a.0 a.1 refl a.2 b.4.asks.are

  list_or_make : AreApart ListCommand MakeCommand
  list_or_make s s' text text' a b = list_apart (codes "make") b.5.asks.behind words a.0 a.1 refl a.2 b.5.asks.are

  count_or_report : AreApart CountCommand ReportCommand
  count_or_report s s' text text' a b = other_command (codes "count") (codes "report") (a.0 ∷ a.1 ∷ []) _ words (λ e. absurd (cc e)) a.2 b.3.asks.are

  count_or_export : AreApart CountCommand ExportCommand
  count_or_export s s' text text' a b = other_command (codes "count") (codes "export") (a.0 ∷ a.1 ∷ []) _ words (λ e. absurd (cc e)) a.2 b.4.asks.are

  count_or_make : AreApart CountCommand MakeCommand
  count_or_make s s' text text' a b = other_command (codes "count") (codes "make") (a.0 ∷ a.1 ∷ []) _ words (λ e. absurd (cc e)) a.2 b.5.asks.are

  record_or_report : AreApart RecordCommand ReportCommand
  record_or_report s s' text text' a b = other_command (codes "record") (codes "report") (a.0 ∷ a.1 ∷ a.2 ∷ a.3 ∷ []) _ words no_report a.4.0 b.3.asks.are

  record_or_export : AreApart RecordCommand ExportCommand
  record_or_export s s' text text' a b = other_command (codes "record") (codes "export") (a.0 ∷ a.1 ∷ a.2 ∷ a.3 ∷ []) _ words no_export_record a.4.0 b.4.asks.are

  record_or_make : AreApart RecordCommand MakeCommand
  record_or_make s s' text text' a b = other_command (codes "record") (codes "make") (a.0 ∷ a.1 ∷ a.2 ∷ a.3 ∷ []) _ words (λ e. absurd (cc e)) a.4.0 b.5.asks.are

  report_or_export : AreApart ReportCommand ExportCommand
  report_or_export s s' text text' a b = other_command (codes "report") (codes "export") _ _ words no_export_report a.3.asks.are b.4.asks.are

  report_or_make : AreApart ReportCommand MakeCommand
  report_or_make s s' text text' a b = other_command (codes "report") (codes "make") _ _ words (λ e. absurd (cc e)) a.3.asks.are b.5.asks.are

  export_or_make : AreApart ExportCommand MakeCommand
  export_or_make s s' text text' a b = other_command (codes "export") (codes "make") _ _ words (λ e. absurd (cc e)) a.4.asks.are b.5.asks.are

  abbrev Exporting : Family
  Exporting = Either ExportCommand MakeCommand

  abbrev Filling : Family
  Filling = Either ReportCommand Exporting

  filling_one : IsOne Filling
  filling_one =
      either_one ReportCommand Exporting reports_one (either_one ExportCommand MakeCommand exports_one makes_one_report export_or_make)
      (apart_both ReportCommand ExportCommand MakeCommand report_or_export report_or_make)

  -- what is apart from each command that fills a store
  apart_filling : (F : Family) → AreApart F ReportCommand → AreApart F ExportCommand → AreApart F MakeCommand → AreApart F Filling
  apart_filling F r e m = apart_both F ReportCommand Exporting r (apart_both F ExportCommand MakeCommand e m)

  record_and_more : IsOne (Either RecordCommand Filling)
  record_and_more = either_one RecordCommand Filling records_one filling_one (apart_filling RecordCommand record_or_report record_or_export record_or_make)

  count_and_more : IsOne (Either CountCommand (Either RecordCommand Filling))
  count_and_more =
      either_one CountCommand (Either RecordCommand Filling) counts_one record_and_more
      (apart_both CountCommand RecordCommand Filling count_or_record (apart_filling CountCommand count_or_report count_or_export count_or_make))

  list_and_more : IsOne (Either ListCommand (Either CountCommand (Either RecordCommand Filling)))
  list_and_more =
      either_one ListCommand (Either CountCommand (Either RecordCommand Filling)) lists_one count_and_more
      (apart_both ListCommand CountCommand (Either RecordCommand Filling) list_or_count (apart_both ListCommand RecordCommand Filling list_or_record (apart_filling ListCommand list_or_report list_or_export list_or_make)))

  answer_one : IsOne (Answers words (Some all) before now)
  answer_one =
      either_one NoCommand (Either ListCommand (Either CountCommand (Either RecordCommand Filling))) none_one list_and_more
      (apart_both NoCommand ListCommand (Either CountCommand (Either RecordCommand Filling)) none_or_list
      (apart_both NoCommand CountCommand (Either RecordCommand Filling) none_or_count (apart_both NoCommand RecordCommand Filling none_or_record (apart_filling NoCommand none_or_report none_or_export none_or_make))))

pub has_one_answer : IsReading → (words : List (List ℕ)) (files : Files) (before now : ℕ) → HasOneAnswer words files before now
has_one_answer spells words files before now all told calm s s' text text' h k =
    answer_one spells words all before now calm s s' text text'
    (subst (λ (f : Files). Answers words f before now s text) told h)
    (subst (λ (f : Files). Answers words f before now s' text') told k)

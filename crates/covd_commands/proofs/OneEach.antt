-- Told files and a shelf that didn't fail leave one status and one text to `check`, `tables`, `count` and `record`, and one record or
-- one refusal to where a record comes from.
use Rattle.std.proofs.Common.{◌≡◌, ℕ, ◌<◌, ◌≤◌, List, length, Some, None, inl, inr, refl, sym, ap, subst, ◌∙◌, arith}
use Rattle.std.specs.Prelude.{◌⊎◌, Result, Ok, Err}
use Rattle.cov_spec.specs.Causes.{Rose}
use Rattle.cov_spec.specs.Files.{file_of}
use Rattle.cov_counting.proofs.Bins.{one as tally_is_one}
use Rattle.record_codec.specs.declared.record.Record.{Record}
use Rattle.record_codec.specs.declared.record.Fields.{Fields}
use Rattle.record_codec.specs.Bytes.{bytes_of}
use Rattle.record_codec.specs.Spelling.{Encodes, fields_of}
use Rattle.design_data.specs.declared.design.Design.{Design}
use Rattle.cov_compile.specs.Elaboration.{parts_of}
use Rattle.covd_commands.specs.declared.status.Status.{Status}
use Rattle.covd_commands.specs.declared.status.Status.TheVariants as status
use Rattle.cov_compile.specs.declared.fault.CompileFault.{CompileFault}
use Rattle.cov_compile.specs.Compiling.{IsDesign, IsDesignFault}
use Rattle.cov_ground.specs.Limits.{longest_design, longest_record, most_events}
use Rattle.cov_tree.specs.declared.declarations.DesignText.{DesignText}
use Rattle.vcd_reader.specs.DumpFault.{DumpFault}
use Rattle.vcd_reader.specs.Reading.{longest_dump}
use Rattle.covd_commands.specs.Lines.{count_text, IsDesignFaultText, IsDumpFaultText, cannot_read_text, too_long_text}
use Rattle.covd_commands.specs.Dumps.{HasText, HasMade, IsTextOf, made_of}
use Rattle.covd_commands.specs.FromFiles.{NotLoaded, NoDesign, HasDesign, HasNoDesign, HasRecord, HasNoRecord, IsRefusedText}
use Rattle.covd_commands.specs.Commands.{IsCountText, Counts, Records}
use Rattle.covd_commands.specs.declared.listing.Listing.{Listing}
use Rattle.covd_commands.specs.Listings.{listing_text, Lists}
use Rattle.record_codec.proofs.RecordLaws.{same_record}
use Rattle.covd_commands.specs.Making.{made_fields, made_events, made_size}
use Rattle.covd_commands.specs.Finding.{Origin, File, Made, Finds, FindsNone, IsTooMuch}
use Rattle.covd_commands.proofs.Refusals.{IsReading, design_text_one, dump_text_one, refused_text_one}
use Rattle.covd_commands.proofs.Dumping.{has_design}
use Rattle.covd_commands.proofs.Trees.{one_tree}
use Rattle.cov_compile.proofs.Texts.{design_one as text_design, fault_one}
use Rattle.covd_commands.proofs.Designs.{design_is}

abbrev pub Told : Type 0
Told = List (List ℕ × List ℕ)

-- ---- cases, each with one answer, of which one at most holds

abbrev pub Family : Type 1
Family = Status → List ℕ → Type 0

abbrev pub IsOne : Family → Type 0
IsOne F = (s s' : Status) (text text' : List ℕ) → F s text → F s' text' → (s ≡ s') × (text ≡ text')

abbrev pub AreApart : Family → Family → Type 0
AreApart F G = (s s' : Status) (text text' : List ℕ) → F s text → G s' text' → ⊥

abbrev pub Either : Family → Family → Family
Either F G s text = F s text ⊎ G s text

pub either_one : (F G : Family) → IsOne F → IsOne G → AreApart F G → IsOne (Either F G)
either_one F G f g apart s s' text text' h k = elim h [
  | inl a ↦ elim k [ inl b ↦ f s s' text text' a b | inr b ↦ absurd (apart s s' text text' a b) ]
  | inr a ↦ elim k [ inl b ↦ absurd (apart s' s text' text b a) | inr b ↦ g s s' text text' a b ]
]

pub apart_both : (F G H : Family) → AreApart F G → AreApart F H → AreApart F (Either G H)
apart_both F G H g h s s' text text' a k = elim k [ inl b ↦ g s s' text text' a b | inr b ↦ h s s' text text' a b ]

-- ---- a record has one tally

text_one : (d : Design) (r : Record) (text other : List ℕ) → IsCountText d r text → IsCountText d r other → text ≡ other
text_one d r text other h k = h.2 ∙ ap (count_text d r.id) (tally_is_one d r h.0 k.0 h.1 k.1) ∙ sym k.2

-- ---- a file has one answer

same_file : (all : Told) (name bytes others : List ℕ) → file_of all name ≡ Some bytes → file_of all name ≡ Some others → bytes ≡ others
same_file all name bytes others h k = cc (h, k)

module _ (all : Told) (name : List ℕ) where
  pub record IsMissing (s : Status) (text : List ℕ) : Type 0 where
    absent : file_of all name ≡ None
    is_status : s ≡ status.ShelfFault
    is_text : text ≡ cannot_read_text name

  pub record IsLong (most : ℕ) (s : Status) (text : List ℕ) : Type 0 where
    bytes : List ℕ
    file : file_of all name ≡ Some bytes
    long : most < length bytes
    is_status : s ≡ status.FileTooLong
    is_text : text ≡ too_long_text name (length bytes)

  abbrev pub IsRefused : ℕ → Status → List ℕ → Type 0
  IsRefused most s text = IsMissing s text ⊎ IsLong most s text

  module _ (before now : ℕ) (calm : Rose before now → ⊥) (most : ℕ) where
    pub refused : (s : Status) (text : List ℕ) → NotLoaded (Some all) before now name most s text → IsRefused most s text
    refused status.ShelfFault text h = elim h.0 [ inl absent ↦ inl (record { absent = absent; is_status = refl; is_text = h.1 }) | inr rose ↦ absurd (calm rose) ]
    refused status.FileTooLong text h = inr (record { bytes = h.1.0; file = h.1.1; long = omega (arith, h.1.2, h.1.3); is_status = refl; is_text = h.2 ∙ ap (too_long_text name) (sym h.1.2) })
    refused other text h = absurd h

  module _ (most : ℕ) (s s' : Status) (text text' : List ℕ) where
    pub refused_one : IsRefused most s text → IsRefused most s' text' → (s ≡ s') × (text ≡ text')
    refused_one h k = elim h [
      | inl a ↦ elim k [ inl b ↦ (a.is_status ∙ sym b.is_status, a.is_text ∙ sym b.is_text) | inr b ↦ absurd (cc (a.absent, b.file)) ]
      | inr a ↦ elim k [
        | inl b ↦ absurd (cc (a.file, b.absent))
        | inr b ↦ (a.is_status ∙ sym b.is_status, a.is_text ∙ ap (λ (bytes : List ℕ). too_long_text name (length bytes)) (same_file all name a.bytes b.bytes a.file b.file) ∙ sym b.is_text)
      ]
    ]

  pub not_refused : (most : ℕ) (s : Status) (text bytes : List ℕ) → file_of all name ≡ Some bytes → length bytes ≤ most → IsRefused most s text → ⊥
  not_refused most s text bytes file short h = elim h [
    | inl a ↦ cc (a.absent, file)
    | inr a ↦ let same : length a.bytes ≡ length bytes = ap length (same_file all name a.bytes bytes a.file file) in omega (arith, a.long)
  ]

-- ---- the design's file

module _ (all : Told) where
  pub design_one : (name : List ℕ) (d e : Design) → HasDesign (Some all) name d → HasDesign (Some all) name e → d ≡ e
  design_one name d e h k = design_is d e (text_design k.text (parts_of d) (parts_of e) (subst (λ (text : List ℕ). IsDesign (parts_of d) text) (same_file all name h.text k.text h.file k.file) h.is_design) k.is_design)

  pub no_design : (name line : List ℕ) (d : Design) → HasDesign (Some all) name d → HasNoDesign (Some all) name line → ⊥
  no_design name line d h n = n.none (parts_of d) (subst (λ (text : List ℕ). IsDesign (parts_of d) text) (same_file all name h.text n.text h.file n.file) h.is_design)

  pub no_design_one : (name line other : List ℕ) → HasNoDesign (Some all) name line → HasNoDesign (Some all) name other → line ≡ other
  no_design_one name line other h k =
      let same = fault_one k.text h.fault k.fault (subst (λ (text : List ℕ). IsDesignFault text h.fault) (same_file all name h.text k.text h.file k.file) h.cause) k.cause in
      design_text_one k.fault line other (subst (λ (fault : CompileFault). IsDesignFaultText fault line) same h.says) k.says

  -- what a command does with a design that it has: this status and this text
  module _ (Ends : Design → Status → List ℕ → Type 0) (ends_one : (d : Design) (s s' : Status) (text text' : List ℕ) → Ends d s text → Ends d s' text' → (s ≡ s') × (text ≡ text')) (design : List ℕ) where
    record IsUncompiled (s : Status) (text : List ℕ) : Type 0 where
      none : HasNoDesign (Some all) design text
      is_status : s ≡ status.DesignRefused

    record IsCompiled (s : Status) (text : List ℕ) : Type 0 where
      d : Design
      has : HasDesign (Some all) design d
      ends : Ends d s text

    -- the answer to the words
    abbrev Case : Status → List ℕ → Type 0
    Case s text = IsRefused all design longest_design s text ⊎ (IsUncompiled s text ⊎ IsCompiled s text)

    compiled_one : (s s' : Status) (text text' : List ℕ) → IsCompiled s text → IsCompiled s' text' → (s ≡ s') × (text ≡ text')
    compiled_one s s' text text' a b = ends_one b.d s s' text text' (subst (λ (d : Design). Ends d s text) (design_one design a.d b.d a.has b.has) a.ends) b.ends

    uncompiled_one : (s s' : Status) (text text' : List ℕ) → IsUncompiled s text → IsUncompiled s' text' → (s ≡ s') × (text ≡ text')
    uncompiled_one s s' text text' a b = (a.is_status ∙ sym b.is_status, no_design_one design text text' a.none b.none)

    has_had : (s : Status) (text : List ℕ) (d : Design) → HasDesign (Some all) design d → IsRefused all design longest_design s text → ⊥
    has_had s text d h = not_refused all design longest_design s text h.text h.file h.short

    none_had : (s : Status) (text line : List ℕ) → HasNoDesign (Some all) design line → IsRefused all design longest_design s text → ⊥
    none_had s text line h = not_refused all design longest_design s text h.text h.file h.short

    case_one : (s s' : Status) (text text' : List ℕ) → Case s text → Case s' text' → (s ≡ s') × (text ≡ text')
    case_one s s' text text' h k = elim h [
      | inl a ↦ elim k [
        | inl b ↦ refused_one all design longest_design s s' text text' a b
        | inr y ↦ elim y [ inl b ↦ absurd (none_had s text text' b.none a) | inr b ↦ absurd (has_had s text b.d b.has a) ]
      ]
      | inr x ↦ elim x [
        | inl a ↦ elim k [
          | inl b ↦ absurd (none_had s' text' text a.none b)
          | inr y ↦ elim y [ inl b ↦ uncompiled_one s s' text text' a b | inr b ↦ absurd (no_design design text b.d b.has a.none) ]
        ]
        | inr a ↦ elim k [
          | inl b ↦ absurd (has_had s' text' a.d a.has b)
          | inr y ↦ elim y [ inl b ↦ absurd (no_design design text' a.d a.has b.none) | inr b ↦ compiled_one s s' text text' a b ]
        ]
      ]
    ]

-- ---- listings

module _ (all : Told) (listing : Listing) where
  record IsListing (d : Design) (s : Status) (text : List ℕ) : Type 0 where
    is_status : s ≡ status.Done
    is_text : text ≡ listing_text listing d

  lists_one : (d : Design) (s s' : Status) (text text' : List ℕ) → IsListing d s text → IsListing d s' text' → (s ≡ s') × (text ≡ text')
  lists_one d s s' text text' a b = (a.is_status ∙ sym b.is_status, a.is_text ∙ sym b.is_text)

  module _ (design : List ℕ) (before now : ℕ) (calm : Rose before now → ⊥) where
    list_case : (s : Status) (text : List ℕ) → Lists (Some all) before now listing design s text → Case all IsListing lists_one design s text
    list_case status.Done text h = inr (inr (record { d = h.0; has = h.1; ends = record { is_status = refl; is_text = h.2 } }))
    list_case status.DesignRefused text h = inr (inl (record { none = h; is_status = refl }))
    list_case status.ShelfFault text h = inl (refused all design before now calm longest_design status.ShelfFault text h)
    list_case status.FileTooLong text h = inl (refused all design before now calm longest_design status.FileTooLong text h)
    list_case other text h = absurd h

    pub list_one : (s s' : Status) (text text' : List ℕ) → Lists (Some all) before now listing design s text → Lists (Some all) before now listing design s' text' → (s ≡ s') × (text ≡ text')
    list_one s s' text text' h k = case_one all IsListing lists_one design s s' text text' (list_case s text h) (list_case s' text' k)

-- ---- count

module _ (spells : IsReading) (all : Told) where
  record_one : (name : List ℕ) (d : Design) (r q : Record) → HasRecord (Some all) name d r → HasRecord (Some all) name d q → r ≡ q
  record_one name d r q h k = spells.one k.bytes r q (subst (λ (bytes : List ℕ). Encodes r bytes) (same_file all name h.bytes k.bytes h.file k.file) h.encodes) k.encodes

  no_record : (name : List ℕ) (d : Design) (k : ℕ) (r : Record) (text : List ℕ) → HasRecord (Some all) name d r → HasNoRecord (Some all) name d k text → ⊥
  no_record name d k r text h n = n.none r (subst (λ (bytes : List ℕ). Encodes r bytes) (same_file all name h.bytes n.bytes h.file n.file) h.encodes) h.fits

  module _ (name : List ℕ) (d : Design) where
    record IsUnfit (s : Status) (text : List ℕ) : Type 0 where
      none : HasNoRecord (Some all) name d 1 text
      is_status : s ≡ status.RecordRefused

    record IsCounted (s : Status) (text : List ℕ) : Type 0 where
      r : Record
      has : HasRecord (Some all) name d r
      is_status : s ≡ status.Done
      counted : IsCountText d r text

    -- the answer once the design is there
    abbrev Ends : Status → List ℕ → Type 0
    Ends s text = IsRefused all name longest_record s text ⊎ (IsUnfit s text ⊎ IsCounted s text)

    had : (s : Status) (text : List ℕ) (r : Record) → HasRecord (Some all) name d r → IsRefused all name longest_record s text → ⊥
    had s text r h = not_refused all name longest_record s text h.bytes h.file h.short

    had_none : (s : Status) (text line : List ℕ) → HasNoRecord (Some all) name d 1 line → IsRefused all name longest_record s text → ⊥
    had_none s text line h = not_refused all name longest_record s text h.bytes h.file h.short

    unfit_one : (s s' : Status) (text text' : List ℕ) → IsUnfit s text → IsUnfit s' text' → (s ≡ s') × (text ≡ text')
    unfit_one s s' text text' a b =
        (a.is_status ∙ sym b.is_status, refused_text_one spells 1 d b.none.bytes text text' (subst (λ (bytes : List ℕ). IsRefusedText 1 d bytes text) (same_file all name a.none.bytes b.none.bytes a.none.file b.none.file) a.none.line) b.none.line)

    counted_one : (s s' : Status) (text text' : List ℕ) → IsCounted s text → IsCounted s' text' → (s ≡ s') × (text ≡ text')
    counted_one s s' text text' a b =
        (a.is_status ∙ sym b.is_status, text_one d b.r text text' (subst (λ (r : Record). IsCountText d r text) (record_one name d a.r b.r a.has b.has) a.counted) b.counted)

    ends_one : (s s' : Status) (text text' : List ℕ) → Ends s text → Ends s' text' → (s ≡ s') × (text ≡ text')
    ends_one s s' text text' h k = elim h [
      | inl a ↦ elim k [
        | inl b ↦ refused_one all name longest_record s s' text text' a b
        | inr y ↦ elim y [ inl b ↦ absurd (had_none s text text' b.none a) | inr b ↦ absurd (had s text b.r b.has a) ]
      ]
      | inr x ↦ elim x [
        | inl a ↦ elim k [
          | inl b ↦ absurd (had_none s' text' text a.none b)
          | inr y ↦ elim y [ inl b ↦ unfit_one s s' text text' a b | inr b ↦ absurd (no_record name d 1 b.r text b.has a.none) ]
        ]
        | inr a ↦ elim k [
          | inl b ↦ absurd (had s' text' a.r a.has b)
          | inr y ↦ elim y [ inl b ↦ absurd (no_record name d 1 a.r text' a.has b.none) | inr b ↦ counted_one s s' text text' a b ]
        ]
      ]
    ]

  module _ (design rec : List ℕ) (before now : ℕ) (calm : Rose before now → ⊥) where
    count_case : (s : Status) (text : List ℕ) → Counts (Some all) before now design rec s text → Case all (Ends rec) (ends_one rec) design s text
    count_case status.Done text h = inr (inr (record { d = h.0; has = h.1; ends = inr (inr (record { r = h.2; has = h.3; is_status = refl; counted = h.4 })) }))
    count_case status.DesignRefused text h = inr (inl (record { none = h; is_status = refl }))
    count_case status.RecordRefused text h = inr (inr (record { d = h.0; has = h.1; ends = inr (inl (record { none = h.2; is_status = refl })) }))
    count_case status.ShelfFault text h = elim h [
      | inl a ↦ inl (refused all design before now calm longest_design status.ShelfFault text a)
      | inr a ↦ inr (inr (record { d = a.0; has = a.1; ends = inl (refused all rec before now calm longest_record status.ShelfFault text a.2) }))
    ]
    count_case status.FileTooLong text h = elim h [
      | inl a ↦ inl (refused all design before now calm longest_design status.FileTooLong text a)
      | inr a ↦ inr (inr (record { d = a.0; has = a.1; ends = inl (refused all rec before now calm longest_record status.FileTooLong text a.2) }))
    ]
    count_case other text h = absurd h

    pub count_one : (s s' : Status) (text text' : List ℕ) → Counts (Some all) before now design rec s text → Counts (Some all) before now design rec s' text' → (s ≡ s') × (text ≡ text')
    count_one s s' text text' h k = case_one all (Ends rec) (ends_one rec) design s s' text text' (count_case s text h) (count_case s' text' k)

-- ---- record

module _ (all : Told) (design dump scope id : List ℕ) where
  trees_one : (d : Design) (tree other : DesignText) → HasText (Some all) design tree d → HasText (Some all) design other d → tree ≡ other
  trees_one d tree other h k =
      one_tree k.text tree other (subst (λ (text : List ℕ). IsTextOf tree d text) (same_file all design h.text k.text h.file k.file) h.is_text).declares k.is_text.declares

  module _ (d : Design) where
    record IsUnmade (s : Status) (text : List ℕ) : Type 0 where
      tree : DesignText
      has : HasText (Some all) design tree d
      fault : DumpFault
      made : HasMade (Some all) dump tree d scope id (Err fault)
      says : IsDumpFaultText fault text
      is_status : s ≡ status.DumpRefused

    record IsWritten (s : Status) (text : List ℕ) : Type 0 where
      tree : DesignText
      has : HasText (Some all) design tree d
      r : Record
      made : HasMade (Some all) dump tree d scope id (Ok (fields_of r))
      encodes : Encodes r text
      is_status : s ≡ status.Done

    made_one : (tree other : DesignText) (made given : Result Fields DumpFault) → HasText (Some all) design tree d → HasText (Some all) design other d
        → HasMade (Some all) dump tree d scope id made → HasMade (Some all) dump other d scope id given → made ≡ given
    made_one tree other made given h k m g =
        let files = same_file all dump m.bytes g.bytes m.file g.file in
        let trees = trees_one d tree other h k in
        sym m.is_made ∙ ap (λ (bytes : List ℕ). made_of tree d bytes scope id) files ∙ ap (λ (t : DesignText). made_of t d g.bytes scope id) trees ∙ g.is_made

    -- the answer once the design is there
    abbrev MakesEnds : Status → List ℕ → Type 0
    MakesEnds s text = IsRefused all dump longest_dump s text ⊎ (IsUnmade s text ⊎ IsWritten s text)

    unmade_one : (s s' : Status) (text text' : List ℕ) → IsUnmade s text → IsUnmade s' text' → (s ≡ s') × (text ≡ text')
    unmade_one s s' text text' a b =
        let made = made_one a.tree b.tree (Err a.fault) (Err b.fault) a.has b.has a.made b.made in
        let same : a.fault ≡ b.fault = cc made in
        (a.is_status ∙ sym b.is_status, dump_text_one b.fault text text' (subst (λ (fault : DumpFault). IsDumpFaultText fault text) same a.says) b.says)

    written_one : (s s' : Status) (text text' : List ℕ) → IsWritten s text → IsWritten s' text' → (s ≡ s') × (text ≡ text')
    written_one s s' text text' a b =
        let made = made_one a.tree b.tree (Ok (fields_of a.r)) (Ok (fields_of b.r)) a.has b.has a.made b.made in
        let same : fields_of a.r ≡ fields_of b.r = cc made in
        (a.is_status ∙ sym b.is_status, a.encodes.spelled ∙ ap bytes_of same ∙ sym b.encodes.spelled)

    unmade_or_written : (s s' : Status) (text text' : List ℕ) → IsUnmade s text → IsWritten s' text' → ⊥
    unmade_or_written s s' text text' a b = let made = made_one a.tree b.tree (Err a.fault) (Ok (fields_of b.r)) a.has b.has a.made b.made in cc made

    loaded : (s s' : Status) (text text' : List ℕ) → IsRefused all dump longest_dump s text → IsUnmade s' text' ⊎ IsWritten s' text' → ⊥
    loaded s s' text text' a k = elim k [
      | inl b ↦ not_refused all dump longest_dump s text b.made.bytes b.made.file b.made.short a
      | inr b ↦ not_refused all dump longest_dump s text b.made.bytes b.made.file b.made.short a
    ]

    makes_one : IsOne MakesEnds
    makes_one = either_one (IsRefused all dump longest_dump) (Either IsUnmade IsWritten) (refused_one all dump longest_dump) (either_one IsUnmade IsWritten unmade_one written_one unmade_or_written) loaded

  module _ (before now : ℕ) (calm : Rose before now → ⊥) where
    record_case : (s : Status) (text : List ℕ) → Records (Some all) before now design dump scope id s text → Case all MakesEnds makes_one design s text
    record_case status.Done text h = inr (inr (record { d = h.1; has = has_design (Some all) design h.0 h.1 h.2; ends = inr (inr (record { tree = h.0; has = h.2; r = h.3; made = h.4; encodes = h.5; is_status = refl })) }))
    record_case status.DesignRefused text h = inr (inl (record { none = h; is_status = refl }))
    record_case status.DumpRefused text h = inr (inr (record { d = h.1; has = has_design (Some all) design h.0 h.1 h.2; ends = inr (inl (record { tree = h.0; has = h.2; fault = h.3; made = h.4; says = h.5; is_status = refl })) }))
    record_case status.ShelfFault text h = elim h [
      | inl a ↦ inl (refused all design before now calm longest_design status.ShelfFault text a)
      | inr a ↦ inr (inr (record { d = a.0; has = a.1; ends = inl (refused all dump before now calm longest_dump status.ShelfFault text a.2) }))
    ]
    record_case status.FileTooLong text h = elim h [
      | inl a ↦ inl (refused all design before now calm longest_design status.FileTooLong text a)
      | inr a ↦ inr (inr (record { d = a.0; has = a.1; ends = inl (refused all dump before now calm longest_dump status.FileTooLong text a.2) }))
    ]
    record_case other text h = absurd h

    pub record_one_answer : IsOne (Records (Some all) before now design dump scope id)
    record_one_answer s s' text text' h k = case_one all MakesEnds makes_one design s s' text text' (record_case s text h) (record_case s' text' k)

-- ---- a design that can't be had, or what follows of it

module _ (all : Told) (design : List ℕ) (before now : ℕ) (calm : Rose before now → ⊥) (Ends : Design → Status → List ℕ → Type 0) (ends_one : (d : Design) → IsOne (Ends d)) where
  design_case : (s : Status) (text : List ℕ) → NoDesign (Some all) before now design s text → Case all Ends ends_one design s text
  design_case status.DesignRefused text h = inr (inl (record { none = h; is_status = refl }))
  design_case other text h = inl (refused all design before now calm longest_design other text h)

  -- the design can't be had, or this is how the command ends with it
  abbrev pub WithDesign : Family
  WithDesign s text = NoDesign (Some all) before now design s text ⊎ ((d : Design) × HasDesign (Some all) design d × Ends d s text)

  with_case : (s : Status) (text : List ℕ) → WithDesign s text → Case all Ends ends_one design s text
  with_case s text h = elim h [ inl a ↦ design_case s text a | inr a ↦ inr (inr (record { d = a.0; has = a.1; ends = a.2 })) ]

  pub with_one : IsOne WithDesign
  with_one s s' text text' h k = case_one all Ends ends_one design s s' text text' (with_case s text h) (with_case s' text' k)

-- ---- where records come from

module _ (d : Design) (seed rounds test : ℕ) where
  few : (r : Record) → fields_of r ≡ made_fields d seed rounds test → made_events d seed rounds test ≤ most_events
  few r e = subst (λ (f : Fields). length f.events ≤ most_events) e r.within.event_count

  short : (r : Record) → fields_of r ≡ made_fields d seed rounds test → made_size d seed rounds test ≤ longest_record
  short r e = subst (λ (f : Fields). length (bytes_of f) ≤ longest_record) e r.within.short

  too_much_one : (text text' : List ℕ) → IsTooMuch d seed rounds test text → IsTooMuch d seed rounds test text' → text ≡ text'
  too_much_one text text' a b = elim a [
    | inl x ↦ elim b [ inl y ↦ x.1 ∙ sym y.1 | inr y ↦ absurd (omega (arith, x.0, y.0)) ]
    | inr x ↦ elim b [ inl y ↦ absurd (omega (arith, x.0, y.0)) | inr y ↦ x.2 ∙ sym y.2 ]
  ]

  made_within : (r : Record) (text : List ℕ) → fields_of r ≡ made_fields d seed rounds test → IsTooMuch d seed rounds test text → ⊥
  made_within r text e a = elim a [ inl x ↦ omega (arith, x.0, few r e) | inr x ↦ omega (arith, x.1, short r e) ]

module _ (spells : IsReading) (all : Told) (before now : ℕ) (calm : Rose before now → ⊥) (d : Design) where
  module _ (k : ℕ) (name : List ℕ) where
    abbrev Unloaded : Family
    Unloaded s text = NotLoaded (Some all) before now name longest_record s text

    abbrev Misfit : Family
    Misfit s text = (s ≡ status.RecordRefused) × HasNoRecord (Some all) name d k text

    unloaded_one : IsOne Unloaded
    unloaded_one s s' text text' a b =
        refused_one all name longest_record s s' text text' (refused all name before now calm longest_record s text a) (refused all name before now calm longest_record s' text' b)

    misfit_one : IsOne Misfit
    misfit_one s s' text text' a b =
        (a.0 ∙ sym b.0, refused_text_one spells k d b.1.bytes text text' (subst (λ (bytes : List ℕ). IsRefusedText k d bytes text) (same_file all name a.1.bytes b.1.bytes a.1.file b.1.file) a.1.line) b.1.line)

    unloaded_or_misfit : AreApart Unloaded Misfit
    unloaded_or_misfit s s' text text' a b = not_refused all name longest_record s text b.1.bytes b.1.file b.1.short (refused all name before now calm longest_record s text a)

    file_none_one : IsOne (Either Unloaded Misfit)
    file_none_one = either_one Unloaded Misfit unloaded_one misfit_one unloaded_or_misfit

    -- a record that is had
    file_found : (s : Status) (text : List ℕ) (r : Record) → HasRecord (Some all) name d r → Either Unloaded Misfit s text → ⊥
    file_found s text r has x = elim x [
      | inl a ↦ not_refused all name longest_record s text has.bytes has.file has.short (refused all name before now calm longest_record s text a)
      | inr a ↦ no_record spells all name d k r text has a.1
    ]

  module _ (k : ℕ) where
    pub unfound_one : (origin : Origin) → IsOne (FindsNone (Some all) before now d k origin)
    unfound_one (File name) s s' text text' a b = file_none_one k name s s' text text' a b
    unfound_one (Made seed rounds) s s' text text' a b = (a.0 ∙ sym b.0, too_much_one d seed rounds k text text' a.1 b.1)

    pub found_one : (origin : Origin) (r q : Record) → Finds (Some all) d k origin r → Finds (Some all) d k origin q → r ≡ q
    found_one (File name) r q e f = record_one spells all name d r q e f
    found_one (Made seed rounds) r q e f = same_record r q (e ∙ sym f)

    pub found_or_not : (origin : Origin) (s : Status) (text : List ℕ) (r : Record) → Finds (Some all) d k origin r → FindsNone (Some all) before now d k origin s text → ⊥
    found_or_not (File name) s text r f a = file_found k name s text r f a
    found_or_not (Made seed rounds) s text r f a = made_within d seed rounds k r text f a.1

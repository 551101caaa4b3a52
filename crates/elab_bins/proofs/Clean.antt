-- Where a point keeps patterns it removes nothing, and elsewhere it has none.
use Rattle.std.proofs.Common.{◌≡◌, ℕ, ◌+◌, ℤ, List, [], ◌∷◌, length, map, refl, sym, subst, Bool, true, false, Option, Some, None, Ok}
use Rattle.std.specs.Prelude.{nat_le, not, is_some, ◌||◌, if◌then◌else◌}
use Rattle.std.specs.List.{AllByRecursion, list_any}
use Rattle.cov_ground.specs.Limits.{most_bins}
use Rattle.cov_base.specs.Sets.{written, set_of, ascending}
use Rattle.cov_tree.specs.declared.bins.BinsDecl.{BinsDecl}
use Rattle.cov_tree.specs.declared.bins.Step.{Step}
use Rattle.cov_tree.specs.declared.bins.Word.{Word}
use Rattle.cov_tree.specs.declared.bins.Word.TheVariants as words
use Rattle.cov_tree.specs.declared.bins.Right.{Right}
use Rattle.cov_tree.specs.declared.bins.Right.TheVariants as rights
use Rattle.cov_tree.specs.declared.bins.Size.{Size}
use Rattle.cov_tree.specs.declared.bins.Size.TheVariants as sizes
use Rattle.const_eval.specs.Typs.{Typ}
use Rattle.const_eval.specs.Terms.{Term}
use Rattle.const_eval.specs.Scopes.{Levels}
use Rattle.trans_seq.specs.declared.seq.Seq.{Seq}
use Rattle.auto_bins.specs.Automatic.{automatic_ranges}
use Rattle.design_data.specs.declared.infos.BinRule.{BinRule}
use Rattle.design_data.specs.declared.infos.BinRule.TheVariants.{Values, Patterns, Trans, Default, DefaultValues, DefaultSequence, Picked, Product}
use Rattle.elab_base.specs.declared.fault.ElabKind.TheVariants as kind
use Rattle.elab_base.specs.Gives.{needs, each_at}
use Rattle.elab_base.specs.Steps.{guard_in}
use Rattle.elab_base.proofs.Keeps.{bind_ok, ok_is, all_push, all_append}
use Rattle.elab_values.specs.declared.domain.Constant.{Constant}
use Rattle.elab_values.specs.declared.domain.Domain.{Domain}
use Rattle.elab_values.specs.declared.elements.Listed.{Listed}
use Rattle.elab_values.specs.declared.made.Made.{Made}
use Rattle.elab_values.specs.declared.made.Settings.{Settings}
use Rattle.elab_transitions.specs.Bins.{trans_bins_of, default_bin_of}
use Rattle.elab_bins.specs.declared.walked.Entry.{Entry}
use Rattle.elab_bins.specs.declared.walked.Entry.TheVariants.{Bin, Rest}
use Rattle.elab_bins.specs.declared.walked.Walked.{Walked}
use Rattle.elab_bins.specs.declared.plans.Head.{Head}
use Rattle.elab_bins.specs.declared.plans.Manner.{Manner}
use Rattle.elab_bins.specs.declared.plans.Plan.{Plan}
use Rattle.elab_bins.specs.declared.plans.Plan.TheVariants as plans
use Rattle.elab_bins.specs.declared.plans.Wanted.{Wanted}
use Rattle.elab_bins.specs.Automatic.{is_coverage, auto_head, auto_bin, constant_bin, automatic_by, automatic, declares_coverage, automatic_added, automatic_binned, with_automatic}
use Rattle.elab_values.specs.Words.{kind_of}
use Rattle.elab_bins.specs.Declarations.{default_kind, is_ignore, is_illegal, with_set, elements_in, entered, head_of, bins_added, values_binned, listed_binned, elements_binned, values_declared, one_added, rest_added, rule_added, default_sized, default_declared, declared_by, bins_declared, no_bins, bins_walked}
use Rattle.elab_bins.specs.Filter.{keep_of, filter_in, kept_numbers}
use Rattle.elab_bins.specs.Made.{wanted_in, planned, named_bin, single, part_bins, parts_kept, bins_made}
use Rattle.elab_bins.specs.Rest.{rest_bin, all_bins}
use Rattle.elab_bins.specs.Transitions.{before, seqs_kept, trans_listed, trans_added, trans_declared, made_added, default_sequence_declared}
use Rattle.elab_bins.specs.Wildcards.{wants_sets, keeps_patterns, manner_of, is_kept, patterns_in, pattern_rule, numbers_in}
use Rattle.elab_bins.proofs.Sequences.{IsTrans, trans_are, default_is}

-- a rule without patterns, or one of a point that keeps them
abbrev pub MayStand : (patterns : Bool) → BinRule → Type 0
MayStand patterns (Values set) = Unit {0}
MayStand patterns (Patterns ps) = patterns ≡ true
MayStand patterns (Trans seqs) = Unit {0}
MayStand patterns Default = Unit {0}
MayStand patterns (DefaultValues set) = Unit {0}
MayStand patterns DefaultSequence = Unit {0}
MayStand patterns (Picked select) = Unit {0}
MayStand patterns (Product members) = Unit {0}

abbrev pub MadeStands : (patterns : Bool) → Made → Type 0
MadeStands patterns made = MayStand patterns made.bin.rule

abbrev EntryStands : (patterns : Bool) → Entry → Type 0
EntryStands patterns (Bin made) = MadeStands patterns made
EntryStands patterns (Rest head) = Unit {0}

-- what is known of a walk over declarations of which none wants sets where patterns are kept
pub record IsClean (patterns : Bool) (w : Walked) : Type 0 where
  pub stand : AllByRecursion (EntryStands patterns) w.entries
  pub ignored : patterns ≡ true → w.ignored ≡ []
  pub illegal : patterns ≡ true → w.illegal ≡ []

-- ---- bins of values

singles_stand : (patterns : Bool) (head : Head) (numbers : List ℤ) → AllByRecursion (EntryStands patterns) (map Bin (map (single head) numbers))
singles_stand patterns head [] = tt
singles_stand patterns head (v ∷ vs) = (tt, singles_stand patterns head vs)

parts_stand : (patterns : Bool) (head : Head) (j : ℕ) (sets : List (List (ℤ × ℤ))) → AllByRecursion (EntryStands patterns) (map Bin (part_bins head j sets))
parts_stand patterns head j [] = tt
parts_stand patterns head j (set ∷ sets) = (tt, parts_stand patterns head (j + 1) sets)

values_stand : (patterns distribute : Bool) (keep : Option Term) (plan : Plan) (head : Head) (numbers kept : List ℤ) → AllByRecursion (EntryStands patterns) (map Bin (bins_made distribute keep plan head numbers kept))
unfolding bins_made
values_stand patterns distribute keep plans.One head numbers kept = (tt, tt)
values_stand patterns distribute keep (plans.Each distinct) head numbers kept = singles_stand patterns head distinct
values_stand patterns distribute keep (plans.Spread n) head numbers kept = parts_stand patterns head 0 (map set_of (parts_kept distribute keep n numbers kept))

with_none : (adds : Bool) (old : List (ℤ × ℤ)) (kept : List ℤ) → adds ≡ false → old ≡ [] → with_set adds old kept ≡ []
with_none adds old kept e was = rw e was

values_clean : (domain : Domain) (patterns distribute : Bool) (keep : Option Term) (wanted : Wanted) (elements : List Listed) (head : Head) (w t : Walked) → (patterns ≡ true → is_ignore head.kind ≡ false) → (patterns ≡ true → is_illegal head.kind ≡ false)
    → values_binned domain distribute keep wanted elements head w ≡ Ok t → IsClean patterns w → IsClean patterns t
unfolding values_binned bins_added
values_clean domain patterns distribute keep wanted elements head w t none nor e h =
    let n = bind_ok (numbers_in domain keep elements head.at) _ t e in
    let k = bind_ok (kept_numbers keep n.0 head.at) _ t n.2 in
    let p = bind_ok (planned w.count wanted k.0 head.at) _ t k.2 in
    let bins = bins_made distribute keep p.0 head n.0 k.0 in
    subst (IsClean patterns) (ok_is _ t p.2) (record {
      stand = all_append (EntryStands patterns) w.entries (map Bin bins) h.stand (values_stand patterns distribute keep p.0 head n.0 k.0);
      ignored = λ is. with_none (is_ignore head.kind) w.ignored k.0 (none is) (h.ignored is);
      illegal = λ is. with_none (is_illegal head.kind) w.illegal k.0 (nor is) (h.illegal is);
    })

-- a bin of which nothing else is known
made_clean : (patterns : Bool) (name : List ℕ) (made : Made) (w : Walked) → MadeStands patterns made → IsClean patterns w → IsClean patterns (made_added name made w)
made_clean patterns name made w one h = record { stand = all_push (EntryStands patterns) w.entries (Bin made) h.stand one; ignored = h.ignored; illegal = h.illegal }

rule_clean : (patterns : Bool) (head : Head) (rule : BinRule) (w t : Walked) → MayStand patterns rule → rule_added head rule w ≡ Ok t → IsClean patterns w → IsClean patterns t
unfolding rule_added one_added
rule_clean patterns head rule w t stands e h =
    let n = bind_ok (needs (nat_le (w.count + 1) most_bins) kind.TooManyBins head.at) _ t e in
    subst (IsClean patterns) (ok_is _ t n.2) (made_clean patterns head.name (named_bin head head.name rule) w stands h)

pattern_stands : (patterns b : Bool) (elements : List Listed) → patterns ≡ true → MayStand patterns (if b then Patterns (patterns_in elements) else Values [])
pattern_stands patterns true elements e = e
pattern_stands patterns false elements e = tt

kept_patterns : (manner : Manner) (keep : Option Term) (wanted : Wanted) (elements : List Listed) (head : Head) → is_kept manner.patterns head.kind keep wanted elements ≡ true → manner.patterns ≡ true
kept_patterns manner (Some term) wanted elements head e = absurd cc
kept_patterns manner None wanted elements head e = by manner.patterns e
  where
    by : (b : Bool) → is_kept b head.kind None wanted elements ≡ true → b ≡ true
    by true e = refl
    by false e = absurd cc

listed_clean : (domain : Domain) (manner : Manner) (keep : Option Term) (wanted : Wanted) (elements : List Listed) (head : Head) (w t : Walked) → (manner.patterns ≡ true → is_ignore head.kind ≡ false) → (manner.patterns ≡ true → is_illegal head.kind ≡ false)
    → listed_binned domain manner keep wanted elements head w ≡ Ok t → IsClean manner.patterns w → IsClean manner.patterns t
unfolding listed_binned
listed_clean domain manner keep wanted elements head w t none nor e h = by (is_kept manner.patterns head.kind keep wanted elements) refl e
  where
    by : (b : Bool) → is_kept manner.patterns head.kind keep wanted elements ≡ b → (if b then rule_added head (pattern_rule domain (patterns_in elements)) w else values_binned domain manner.distribute keep wanted elements head w) ≡ Ok t → IsClean manner.patterns t
    by true is e = rule_clean manner.patterns head (pattern_rule domain (patterns_in elements)) w t (pattern_stands manner.patterns _ elements (kept_patterns manner keep wanted elements head is)) e h
    by false is e = values_clean domain manner.patterns manner.distribute keep wanted elements head w t none nor e h

-- a declaration that wants no sets is one of coverage bins
word_keeps : (word : Word) → not (is_coverage word) ≡ false → (is_ignore (kind_of word) ≡ false) × (is_illegal (kind_of word) ≡ false)
word_keeps words.Bins e = (refl, refl)
word_keeps words.Illegal e = absurd cc
word_keeps words.Ignore e = absurd cc

declared_values : (levels : Levels) (domain : Domain) (manner : Manner) (b : BinsDecl) (w t : Walked) → (manner.patterns ≡ true → not (is_coverage b.word) ≡ false) → values_declared levels domain manner b w ≡ Ok t → IsClean manner.patterns w → IsClean manner.patterns t
unfolding values_declared elements_binned
declared_values levels domain manner b w t none e h =
    let s = bind_ok (elements_in levels domain b.wildcard b.right) _ t e in
    let k = bind_ok (filter_in levels domain.typ (keep_of b.right)) _ t s.2 in
    let a = bind_ok (wanted_in levels b.size b.at) _ t k.2 in
    let g = bind_ok (guard_in levels b.guard) _ t a.2 in
    listed_clean domain manner k.0 a.0 s.0 (head_of b (kind_of b.word) g.0 w) w t (λ is. (word_keeps b.word (none is)).0) (λ is. (word_keeps b.word (none is)).1) g.2 h

-- ---- other declarations

rest_clean : (patterns : Bool) (head : Head) (w : Walked) → IsClean patterns w → IsClean patterns (rest_added head w)
unfolding rest_added
rest_clean patterns head w h = record { stand = all_push (EntryStands patterns) w.entries (Rest head) h.stand tt; ignored = h.ignored; illegal = h.illegal }

sized_clean : (patterns : Bool) (size : Size) (head : Head) (w t : Walked) → default_sized size head w ≡ Ok t → IsClean patterns w → IsClean patterns t
sized_clean patterns sizes.Open head w t e h = subst (IsClean patterns) (ok_is (rest_added head w) t e) (rest_clean patterns head w h)
sized_clean patterns sizes.Scalar head w t e h = rule_clean patterns head Default w t tt e h
sized_clean patterns (sizes.Fixed bins) head w t e h = rule_clean patterns head Default w t tt e h

trans_stand : (patterns : Bool) (declared : ℕ) (bins : List Made) → AllByRecursion (IsTrans declared) bins → AllByRecursion (EntryStands patterns) (map Bin bins)
trans_stand patterns declared [] all = tt
trans_stand patterns declared (made ∷ bins) all = (subst (MayStand patterns) (sym all.0.rule) tt, trans_stand patterns declared bins all.1)

seqs_clean : (patterns : Bool) (word : Word) (seqs : List Seq) (w : Walked) → IsClean patterns w → IsClean patterns (seqs_kept word seqs w)
seqs_clean patterns words.Bins seqs w h = h
seqs_clean patterns words.Illegal seqs w h = record { stand = h.stand; ignored = h.ignored; illegal = h.illegal }
seqs_clean patterns words.Ignore seqs w h = record { stand = h.stand; ignored = h.ignored; illegal = h.illegal }

trans_clean : (patterns : Bool) (levels : Levels) (domain : Domain) (b : BinsDecl) (sequences : List (List Step)) (w t : Walked) → trans_declared levels domain b sequences w ≡ Ok t → IsClean patterns w → IsClean patterns t
unfolding trans_declared trans_added
trans_clean patterns levels domain b sequences w t e h =
    let m = bind_ok (trans_bins_of levels domain b sequences (before w)) _ t e in
    let are = trans_are levels domain b sequences (before w) m.0 m.1 in
    let listed : IsClean patterns (trans_listed b.name m.0 w) = record {
      stand = all_append (EntryStands patterns) w.entries (map Bin m.0.bins) h.stand (trans_stand patterns (length w.names) m.0.bins are);
      ignored = h.ignored;
      illegal = h.illegal;
    } in
    subst (IsClean patterns) (ok_is _ t m.2) (seqs_clean patterns b.word m.0.removed (trans_listed b.name m.0 w) listed)

sequence_clean : (patterns : Bool) (levels : Levels) (b : BinsDecl) (w t : Walked) → default_sequence_declared levels b w ≡ Ok t → IsClean patterns w → IsClean patterns t
unfolding default_sequence_declared
sequence_clean patterns levels b w t e h =
    let m = bind_ok (default_bin_of levels b (before w)) _ t e in
    let is = default_is levels b (before w) m.0 m.1 in
    subst (IsClean patterns) (ok_is _ t m.2) (made_clean patterns b.name m.0 w (subst (MayStand patterns) (sym is) tt) h)

right_clean : (levels : Levels) (domain : Domain) (manner : Manner) (b : BinsDecl) (right : Right) (w t : Walked) → (manner.patterns ≡ true → wants_sets b right ≡ false) → declared_by levels domain manner b w right ≡ Ok t → IsClean manner.patterns w → IsClean manner.patterns t
unfolding default_declared
right_clean levels domain manner b (rights.Ranges elems keep) w t none e h = declared_values levels domain manner b w t none e h
right_clean levels domain manner b (rights.Whole name keep) w t none e h = declared_values levels domain manner b w t none e h
right_clean levels domain manner b (rights.Trans seqs) w t none e h = trans_clean manner.patterns levels domain b seqs w t e h
right_clean levels domain manner b rights.Default w t none e h =
    let g = bind_ok (guard_in levels b.guard) _ t e in
    sized_clean manner.patterns b.size (head_of b (default_kind b.word) g.0 w) w t g.2 h
right_clean levels domain manner b rights.DefaultSequence w t none e h = sequence_clean manner.patterns levels b w t e h

declared_clean : (levels : Levels) (domain : Domain) (name : List ℕ) (manner : Manner) (b : BinsDecl) (w t : Walked) → (manner.patterns ≡ true → wants_sets b b.right ≡ false) → bins_declared levels domain name manner b w ≡ Ok t → IsClean manner.patterns w → IsClean manner.patterns t
unfolding bins_declared
declared_clean levels domain name manner b w t none e h =
    let a = bind_ok (entered name b w) _ t e in
    right_clean levels domain manner b b.right w t none a.2 h

first_none : (a b : Bool) → (a || b) ≡ false → a ≡ false
first_none false b e = refl
first_none true b e = absurd cc

rest_none : (a b : Bool) → (a || b) ≡ false → b ≡ false
rest_none false b e = e
rest_none true b e = absurd cc

each_clean : (levels : Levels) (domain : Domain) (name : List ℕ) (manner : Manner) (k : ℕ) (bs : List BinsDecl) (w t : Walked) → (manner.patterns ≡ true → list_any (λ (b : BinsDecl). wants_sets b b.right) bs ≡ false) → each_at (λ i. bins_declared levels domain name manner) k bs w ≡ Ok t
    → IsClean manner.patterns w → IsClean manner.patterns t
unfolding each_at
each_clean levels domain name manner k [] w t none e h = subst (IsClean manner.patterns) (ok_is w t e) h
each_clean levels domain name manner k (b ∷ bs) w t none e h =
    let s = bind_ok (bins_declared levels domain name manner b w) (each_at (λ i. bins_declared levels domain name manner) (k + 1) bs) t e in
    let one = declared_clean levels domain name manner b w s.0 (λ is. first_none (wants_sets b b.right) _ (none is)) s.1 h in
    each_clean levels domain name manner (k + 1) bs s.0 t (λ is. rest_none (wants_sets b b.right) _ (none is)) s.2 one

keeps_none : (domain : Domain) (settings : Settings) (bs : List BinsDecl) → keeps_patterns domain settings bs ≡ true → list_any (λ (b : BinsDecl). wants_sets b b.right) bs ≡ false
keeps_none domain settings bs e = by (is_some domain.constants) settings.intersected (list_any (λ (b : BinsDecl). wants_sets b b.right) bs) e
  where
    by : (a b c : Bool) → (if a then false else (if b then false else not c)) ≡ true → c ≡ false
    by true b c e = absurd cc
    by false true c e = absurd cc
    by false false true e = absurd cc
    by false false false e = refl

pub walked_clean : (levels : Levels) (domain : Domain) (name : List ℕ) (settings : Settings) (bs : List BinsDecl) (w : Walked) → bins_walked levels domain name (manner_of domain settings bs) bs ≡ Ok w → IsClean (keeps_patterns domain settings bs) w
unfolding bins_walked
walked_clean levels domain name settings bs w e = each_clean levels domain name (manner_of domain settings bs) 0 bs no_bins w (keeps_none domain settings bs) e (record { stand = tt; ignored = λ is. refl; illegal = λ is. refl })

-- ---- automatic bins, and arrays of `default`

ranges_stand : (patterns : Bool) (head : Head) (ranges : List (ℤ × ℤ)) → AllByRecursion (EntryStands patterns) (map Bin (map (auto_bin head) ranges))
ranges_stand patterns head [] = tt
ranges_stand patterns head (r ∷ rs) = (tt, ranges_stand patterns head rs)

constants_stand : (patterns : Bool) (head : Head) (constants : List Constant) → AllByRecursion (EntryStands patterns) (map Bin (map (constant_bin head) constants))
constants_stand patterns head [] = tt
constants_stand patterns head (c ∷ cs) = (tt, constants_stand patterns head cs)

automatic_stand : (patterns : Bool) (head : Head) (typ : Typ) (most : ℕ) (constants : Option (List Constant)) → AllByRecursion (EntryStands patterns) (map Bin (automatic_by head typ most constants))
automatic_stand patterns head typ most None = ranges_stand patterns head (automatic_ranges typ.width typ.signed most)
automatic_stand patterns head typ most (Some constants) = constants_stand patterns head constants

binned_clean : (patterns : Bool) (domain : Domain) (settings : Settings) (at : ℕ) (w t : Walked) → automatic_binned domain settings at w ≡ Ok t → IsClean patterns w → IsClean patterns t
unfolding automatic_binned automatic_added
binned_clean patterns domain settings at w t e h =
    let autos = automatic domain settings at in
    let n = bind_ok (needs (nat_le (w.count + length autos) most_bins) kind.TooManyBins at) _ t e in
    subst (IsClean patterns) (ok_is _ t n.2) (record {
      stand = all_append (EntryStands patterns) w.entries (map Bin autos) h.stand (automatic_stand patterns (auto_head at) domain.typ settings.auto_bin_max domain.constants);
      ignored = h.ignored;
      illegal = h.illegal;
    })

pub undeclared_clean : (patterns : Bool) (domain : Domain) (settings : Settings) (bs : List BinsDecl) (at : ℕ) (w t : Walked) → with_automatic domain settings bs at w ≡ Ok t → IsClean patterns w → IsClean patterns t
unfolding with_automatic
undeclared_clean patterns domain settings bs at w t e h = by (declares_coverage bs) e
  where
    by : (b : Bool) → (if b then Ok w else automatic_binned domain settings at w) ≡ Ok t → IsClean patterns t
    by true e = subst (IsClean patterns) (ok_is w t e) h
    by false e = binned_clean patterns domain settings at w t e h

rests_stand : (patterns : Bool) (head : Head) (numbers : List ℤ) → AllByRecursion (MadeStands patterns) (map (rest_bin head) numbers)
rests_stand patterns head [] = tt
rests_stand patterns head (v ∷ vs) = (tt, rests_stand patterns head vs)

pub filled_stand : (patterns : Bool) (rest : List (ℤ × ℤ)) (entries : List Entry) → AllByRecursion (EntryStands patterns) entries → AllByRecursion (MadeStands patterns) (all_bins rest entries)
unfolding all_bins
filled_stand patterns rest [] all = tt
filled_stand patterns rest (Bin made ∷ entries) all = (all.0, filled_stand patterns rest entries all.1)
filled_stand patterns rest (Rest head ∷ entries) all = all_append (MadeStands patterns) (map (rest_bin head) (ascending (written rest))) (all_bins rest entries) (rests_stand patterns head (ascending (written rest))) (filled_stand patterns rest entries all.1)

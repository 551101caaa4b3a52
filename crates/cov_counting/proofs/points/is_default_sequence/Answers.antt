use Rattle.std.proofs.Common.{refl, subst, sym, ◌∙◌, List, ◌++◌, drop}
use Rattle.std.specs.Prelude.{All, ℤ, Option}
use Rattle.std.proofs.lemmas.Bool.{false≢true}
use Rattle.trans_seq.specs.declared.seq.Seq.{Seq}
use Rattle.design_data.specs.declared.infos.BinInfo.{BinInfo}
use Rattle.design_data.specs.Bins.{seqs_of}
use Rattle.cov_counting.specs.Hits.{EndsNone}
use Rattle.cov_counting.proofs.Windows.{yes, no, some_of, some_left, some_right, some_neither}
use Rattle.cov_counting.proofs.points.is_default_sequence.Goals as goal

pub returns-then-not-no_bin : goal.returns-then-not-no_bin
returns-then-not-no_bin c = no _ refl (λ d.
    let bins = subst (λ (v : List (Option ℤ)). All (λ bin. EndsNone (seqs_of bin.rule) v) c.args.item.now.bins) (sym c.requires) d.bins in
    false≢true (sym c.if-not-no_bin.true ∙ c.in_ok-no_bin.ensures.1 (subst (All (λ (bin : BinInfo). EndsNone (seqs_of bin.rule) c.args.values.now)) (sym c.as_slice.ensures) bins)))

pub returns-then-not-no_ignored : goal.returns-then-not-no_ignored
returns-then-not-no_ignored c = no _ refl (λ d.
    let item = c.args.item.now in
    let none = subst (EndsNone (item.ignored ++ item.illegal)) (sym c.requires) d.removing in
    let ignored : EndsNone item.ignored c.args.values.now = λ from lt s. none from lt (some_left item.ignored item.illegal (drop from c.args.values.now) s) in
    false≢true (sym c.if-not-no_ignored.true ∙ c.in_ok-no_ignored.ensures.1 (subst (λ (s : List Seq). EndsNone s c.args.values.now) (sym c.as_slice-2.ensures) ignored)))

pub returns-then-not-no_illegal : goal.returns-then-not-no_illegal
returns-then-not-no_illegal c = no _ refl (λ d.
    let item = c.args.item.now in
    let none = subst (EndsNone (item.ignored ++ item.illegal)) (sym c.requires) d.removing in
    let illegal : EndsNone item.illegal c.args.values.now = λ from lt s. none from lt (some_right item.ignored item.illegal (drop from c.args.values.now) s) in
    false≢true (sym c.if-not-no_illegal.true ∙ c.in_ok-no_illegal.ensures.1 (subst (λ (s : List Seq). EndsNone s c.args.values.now) (sym c.as_slice-3.ensures) illegal)))

pub returns : goal.returns
returns c = yes _ refl (
    let item = c.args.item.now in
    let v = c.args.values.now in
    let bins = subst (All (λ (bin : BinInfo). EndsNone (seqs_of bin.rule) v)) c.as_slice.ensures (c.in_ok-no_bin.ensures.0 c.if-not-no_bin.false) in
    let ignored = subst (λ (s : List Seq). EndsNone s v) c.as_slice-2.ensures (c.in_ok-no_ignored.ensures.0 c.if-not-no_ignored.false) in
    let illegal = subst (λ (s : List Seq). EndsNone s v) c.as_slice-3.ensures (c.in_ok-no_illegal.ensures.0 c.if-not-no_illegal.false) in
    let none : EndsNone (item.ignored ++ item.illegal) v = λ from lt s. some_neither item.ignored item.illegal (drop from v) (ignored from lt) (illegal from lt) s in
    record {
      later = some_of _ (sym c.is_empty.ensures ∙ c.if-is_empty.false);
      bins = subst (λ (w : List (Option ℤ)). All (λ bin. EndsNone (seqs_of bin.rule) w) item.bins) c.requires bins;
      removing = subst (EndsNone (item.ignored ++ item.illegal)) c.requires none;
    })

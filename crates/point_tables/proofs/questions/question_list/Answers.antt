use Rattle.std.proofs.Common.{◌≡◌, ap, sym, subst, refl, List, [], ◌∷◌, length, arith, length-append}
use Rattle.std.specs.Prelude.{slice_get, Some}
use Rattle.std.proofs.lemmas.Option.{slice_get_read}
use Rattle.point_tables.specs.declared.tables.Question.{Question}
use Rattle.point_tables.specs.Tables.{AreQuestions}
use Rattle.point_tables.proofs.Asking.{none_asked, asked_more}
use Rattle.point_tables.proofs.questions.question_list.Goals as goal

pub loop-bin-init : goal.loop-bin-init
loop-bin-init c = record {
  same = ap (λ (qs : List Question). length qs) c.new-list.ensures.items;
  each = subst (AreQuestions c.args.typ c.args.bins.now) (sym c.new-list.ensures.items) (none_asked c.args.typ c.args.bins.now);
}

pub loop-bin-preserved : goal.loop-bin-preserved
loop-bin-preserved c =
    let bins = c.args.bins.now in
    let i = c.loop-bin.bin-index in
    let bin = c.bin-item.result in
    let list = c.loop-bin.list.items in
    let inv = c.loop-bin.invariant in
    let is : slice_get bins i ≡ Some bin = slice_get_read bins (length bins) i bin refl c.loop-bin-test.true c.bin-item.is in
    record {
      same = omega (arith, ap (λ (qs : List Question). length qs) c.in_ok-push.ensures.items, length-append list (c.question_of.result ∷ []), inv.same);
      each = subst (AreQuestions c.args.typ bins) (sym c.in_ok-push.ensures.items)
          (asked_more c.args.typ bins list bin c.question_of.result (subst (λ (k : _). slice_get bins k ≡ Some bin) (sym inv.same) is) c.question_of.ensures inv.each);
    }

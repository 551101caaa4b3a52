use Rattle.std.proofs.Common.{ℕ, List, ◌∷◌, [], ◌++◌, ◌||◌, length, ap, sym, subst, ◌∙◌}
use Rattle.std.specs.List.{list_any}
use Rattle.design_data.specs.declared.infos.BinInfo.{BinInfo}
use Rattle.design_data.specs.Crosses.{picks, is_left}
use Rattle.product_bits.specs.Numbers.{product_at}
use Rattle.product_bits.specs.Marks.{Marks}
use Rattle.product_bits.proofs.SetLemmas.{marks_as}
use Rattle.elab_values.specs.declared.made.Made.{Made}
use Rattle.elab_crosses.specs.Free.{IsFree}
use Rattle.elab_crosses.specs.Removal.{infos, left_of}
use Rattle.elab_crosses.proofs.Removing.{any_push, left_push}
use Rattle.elab_crosses.proofs.left.keep_all.Goals as goal

pub loop-made-preserved : goal.loop-made-preserved
loop-made-preserved c =
    let sizes = c.args.sizes.now in
    let made = c.in-Some.made in
    let yielded = c.loop-made.yielded in
    record {
      kept = λ (all : List BinInfo) (free : IsFree sizes all c.args.free.now).
          c.in_ok-keep_left.ensures.kept all (subst (λ (ws : List ℕ). Marks sizes (is_left all made.bin.kind) ws) (sym c.of_kind.ensures) (free made.bin.kind))
          ∙ (ap (λ (xs : List Made). xs ++ left_of sizes all made) (c.loop-made.invariant.kept all free) ∙ left_push (left_of sizes all) yielded made);
      picked = marks_as sizes c.keep_left.new.picked (λ product. list_any (λ bin. picks product bin.rule) (infos yielded) || picks product made.bin.rule) (λ product. list_any (λ bin. picks product bin.rule) (infos (yielded ++ made ∷ [])))
          (λ n. any_push (λ bin. picks (product_at sizes n) bin.rule) yielded made)
          (c.in_ok-keep_left.ensures.picked (λ product. list_any (λ bin. picks product bin.rule) (infos yielded)) c.loop-made.invariant.picked);
    }

pub keep_left-requires-clause-len : goal.keep_left-requires-clause-len
keep_left-requires-clause-len c = ap (length {A = ℕ}) c.of_kind.ensures ∙ c.requires.len c.in-Some.made.bin.kind

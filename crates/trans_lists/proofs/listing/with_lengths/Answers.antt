use Rattle.std.proofs.Common.{rules, ◌≡◌, ℕ, ◌+◌, ◌-◌, ◌<◌, ◌≤◌, List, [], length, map, take, refl, subst, sym, arith}
use Rattle.std.specs.List.{flat_map}
use Rattle.std.proofs.lemmas.List.{take_all}
use Rattle.cov_base.specs.Sets.{written}
use Rattle.trans_found.specs.Lists.{from_on, choices, joined, all_of}
use Rattle.trans_found.specs.Found.{Extends, FailsAfter}
use Rattle.trans_found.proofs.News.{Word}
use Rattle.trans_found.proofs.FoundLemmas.{extends_part, fails_spread}
use Rattle.trans_found.proofs.ListingLemmas.{size_at, length-from_on, made, made_few}
use Rattle.trans_lists.proofs.listing.with_lengths.Goals as goal
use Rattle.trans_lists.proofs.listing.with_lengths.Goals.{else-loop-size-test, then-loop-size-test+in_ok-take_length+else-size-high}

pub returns-in_err-take_length-clause-err : goal.returns-in_err-take_length-clause-err
returns-in_err-take_length-clause-err c =
    let groups = c.args.groups.now in
    let g : ℕ → List (List Word) = λ n. map (λ q. joined (choices (written c.args.set.now) n) q) groups in
    let low = c.args.low in
    let high = c.args.high in
    let ns = from_on low (high + 1 - low) in
    let start = c.none_found-found.result in
    let size = c.loop-size.size in
    let e = c.in_err-take_length.field-0.0 in
    let i = size - low in
    let inside : i < high + 1 - low = omega (arith, c.loop-size-test.true, c.loop-size.auto.size) in
    let long : length ns ≡ high + 1 - low = length-from_on low (high + 1 - low) in
    let all : FailsAfter (all_of start.groups.items) (all_of (flat_map g ns)) e =
    fails_spread g start c.loop-size.found ns i size (omega (arith, inside, long)) (size_at ns low (high + 1 - low) i size refl inside (omega (arith, c.loop-size.auto.size))) c.loop-size.invariant e c.in_err-take_length.ensures.err in
    let whole : FailsAfter [] (all_of (flat_map g ns)) e = subst (λ l. FailsAfter (all_of l) (all_of (flat_map g ns)) e) c.none_found-found.ensures.groups all in
    search (rules, whole)

pub loop-size-preserved : goal.loop-size-preserved
loop-size-preserved c =
    let groups = c.args.groups.now in
    let g : ℕ → List (List Word) = λ n. map (λ q. joined (choices (written c.args.set.now) n) q) groups in
    let low = c.args.low in
    let high = c.args.high in
    let ns = from_on low (high + 1 - low) in
    let start = c.none_found-found.result in
    let size = c.loop-size.size in
    let i = size - low in
    let inside : i < high + 1 - low = omega (arith, c.loop-size-test.true, c.loop-size.auto.size) in
    let long : length ns ≡ high + 1 - low = length-from_on low (high + 1 - low) in
    let more : Extends start c.take_length.new.found (flat_map g (take (i + 1) ns)) =
    extends_part g start c.loop-size.found ns i size (omega (arith, inside, long)) (size_at ns low (high + 1 - low) i size refl inside (omega (arith, c.loop-size.auto.size))) c.loop-size.invariant c.take_length.new.found c.in_ok-take_length.ensures.ok in
    let next : i + 1 ≡ (size + 1) - low = omega (arith, c.loop-size.auto.size) in
    subst (λ k. Extends start c.take_length.new.found (flat_map g (take k ns))) next more

pub returns-clause-ok : goal.returns-clause-ok
returns-clause-ok c =
    let groups = c.args.groups.now in
    let g : ℕ → List (List Word) = λ n. map (λ q. joined (choices (written c.args.set.now) n) q) groups in
    let low = c.args.low in
    let high = c.args.high in
    let ns = from_on low (high + 1 - low) in
    let start = c.none_found-found.result in
    let size = c.loop-size.size in
    let i = size - low in
    let long : length ns ≡ high + 1 - low = length-from_on low (high + 1 - low) in
    let whole : Extends start c.loop-size-test.found (flat_map g ns) = elim c.loop-size-test.branch [
      | else-loop-size-test w ↦
          let past : high < size = w.loop-size-test.false in
          subst (λ f. Extends start f (flat_map g ns)) (sym w.found-is)
          (subst (λ ks. Extends start c.loop-size.found (flat_map g ks)) (take_all i ns (omega (arith, long, past))) c.loop-size.invariant)
      | then-loop-size-test+in_ok-take_length+else-size-high w ↦
          let at_end : high ≤ size = omega arith in
          let inside : i < high + 1 - low = omega (arith, w.loop-size-test.true, c.loop-size.auto.size) in
          let more : Extends start w.take_length.new.found (flat_map g (take (i + 1) ns)) =
          extends_part g start c.loop-size.found ns i size (omega (arith, inside, long)) (size_at ns low (high + 1 - low) i size refl inside (omega (arith, c.loop-size.auto.size))) c.loop-size.invariant w.take_length.new.found w.in_ok-take_length.ensures.ok in
          subst (λ f. Extends start f (flat_map g ns)) (sym w.found-is)
          (subst (λ ks. Extends start w.take_length.new.found (flat_map g ks)) (take_all (i + 1) ns (omega (arith, long, at_end))) more)
    ] in
    made start c.loop-size-test.found (flat_map g ns) c.none_found-found.ensures.groups whole

pub returns-clause-few : goal.returns-clause-few
returns-clause-few c =
    let groups = c.args.groups.now in
    let g : ℕ → List (List Word) = λ n. map (λ q. joined (choices (written c.args.set.now) n) q) groups in
    let low = c.args.low in
    let high = c.args.high in
    let ns = from_on low (high + 1 - low) in
    let start = c.none_found-found.result in
    let size = c.loop-size.size in
    let i = size - low in
    let long : length ns ≡ high + 1 - low = length-from_on low (high + 1 - low) in
    let whole : Extends start c.loop-size-test.found (flat_map g ns) = elim c.loop-size-test.branch [
      | else-loop-size-test w ↦
          let past : high < size = w.loop-size-test.false in
          subst (λ f. Extends start f (flat_map g ns)) (sym w.found-is)
          (subst (λ ks. Extends start c.loop-size.found (flat_map g ks)) (take_all i ns (omega (arith, long, past))) c.loop-size.invariant)
      | then-loop-size-test+in_ok-take_length+else-size-high w ↦
          let at_end : high ≤ size = omega arith in
          let inside : i < high + 1 - low = omega (arith, w.loop-size-test.true, c.loop-size.auto.size) in
          let more : Extends start w.take_length.new.found (flat_map g (take (i + 1) ns)) =
          extends_part g start c.loop-size.found ns i size (omega (arith, inside, long)) (size_at ns low (high + 1 - low) i size refl inside (omega (arith, c.loop-size.auto.size))) c.loop-size.invariant w.take_length.new.found w.in_ok-take_length.ensures.ok in
          subst (λ f. Extends start f (flat_map g ns)) (sym w.found-is)
          (subst (λ ks. Extends start w.take_length.new.found (flat_map g ks)) (take_all (i + 1) ns (omega (arith, long, at_end))) more)
    ] in
    made_few c.loop-size-test.found whole.holds whole.fresh

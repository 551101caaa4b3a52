use Rattle.std.proofs.Common.{◌≡◌, ◌+◌, [], ◌∷◌, ◌++◌, length, length-append, ap, sym, ◌∙◌, subst, arith, Bool, true, false, append_assoc}
use Rattle.std.specs.Prelude.{not}
use Rattle.std.proofs.lemmas.Bool.{true≢false}
use Rattle.trans_found.specs.Lists.{is_among, all_of}
use Rattle.trans_found.specs.Found.{lists_of}
use Rattle.trans_found.proofs.FoundLemmas.{seen_after, news_new}
use Rattle.trans_found.proofs.found.take_list.Goals as goal

from_not : (b c : Bool) → b ≡ not c → b ≡ true → c ≡ false
from_not b true e t = absurd (true≢false (sym t ∙ e))
from_not b false e t = λ i. false

pub returns-clause-ok : goal.returns-clause-ok
returns-clause-ok c =
    let old = c.args.found.now in
    let w = c.args.list in
    let keyed = c.in_ok-key_of.ensures ∙ c.as_slice.ensures in
    let key = c.in_ok-key_of.field-0 in
    let before = lists_of old in
    let new : is_among before w ≡ false = subst (λ u. is_among before u ≡ false) keyed (sym (c.requires.seen key) ∙ from_not _ _ c.in_ok-insert.ensures.added c.if-not-branch.false) in
    let pushed : c.push.new.self.items ≡ old.fresh.items ++ w ∷ [] = c.in_ok-push.ensures.items in
    let after : all_of old.groups.items ++ c.push.new.self.items ≡ before ++ w ∷ [] = ap (λ f. all_of old.groups.items ++ f) pushed ∙ sym (append_assoc (all_of old.groups.items) old.fresh.items (w ∷ [])) in
    record {
      holds = record {
        seen = λ q. seen_after before _ _ key w c.requires.seen (λ q. c.in_ok-insert.ensures.updates.0 q) keyed q ∙ ap (λ l. is_among l q.items) (sym after);
        count = ap (λ n. n + 1) c.requires.count ∙ sym (ap length after ∙ length-append before (w ∷ []));
        few = omega arith;
      };
      groups = λ i. old.groups.items;
      fresh = pushed ∙ ap (λ l. old.fresh.items ++ l) (sym (news_new before w new));
    }

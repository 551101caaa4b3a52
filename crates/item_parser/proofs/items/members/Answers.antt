use Rattle.std.proofs.Common.{arith, refl, sym, ◌∙◌, [], ◌∷◌}
use Rattle.cov_lexer.specs.declared.kind.Kind.TheVariants.{Semi, OptionWord, TypeOptionWord, Ident, CoverpointWord, CrossWord}
use Rattle.cov_grammar.proofs.Sets.{In_more}
use Rattle.cov_grammar.proofs.Steps.{exits, one_next}
use Rattle.cov_grammar.proofs.GroupLaws.{member_firsts, member_lawful}
use Rattle.item_parser.proofs.BodyWalks.{entry_falls}
use Rattle.item_parser.proofs.GroupWalks.{is_of, is_not_of}
use Rattle.item_parser.proofs.MemberWalks.{members_start, members_next, members_end, member_semi}
use Rattle.item_parser.proofs.MemberWalks.{other_kind, word_of, member_breaks, nothing_more}
use Rattle.item_parser.proofs.items.members.Goals as goal

pub loop-token-init : goal.loop-token-init
loop-token-init c = rw c.new-members.ensures (members_start _ _)

pub loop-token-preserved-then-is_one_of : goal.loop-token-preserved-then-is_one_of
loop-token-preserved-then-is_one_of c =
    let h = is_of _ _ (Semi ∷ []) (c.in-Some.ensures.some c.args.room) (sym c.is_one_of.ensures ∙ c.if-is_one_of.true) in
    nothing_more _ _ _ (members_next _ _ _ c.loop-token.invariant (member_semi _ _ h (word_of _ _ Semi h (c.in-Some.ensures.some c.args.room))))

pub member-requires : goal.member-requires
member-requires c = other_kind _ _ Semi (OptionWord ∷ TypeOptionWord ∷ Ident ∷ CoverpointWord ∷ CrossWord ∷ []) c.in-Some.ensures.here
    (is_not_of _ _ (Semi ∷ []) (c.in-Some.ensures.some c.args.room) (sym c.is_one_of.ensures ∙ c.if-is_one_of.false))

pub returns-in_err-member : goal.returns-in_err-member
returns-in_err-member c = exits _ _ _ _ _ c.from_residual.ensures.1 (member_breaks _ _ _ _ c.loop-token.invariant (other_kind _ _ Semi (OptionWord ∷ TypeOptionWord ∷ Ident ∷ CoverpointWord ∷ CrossWord ∷ []) c.in-Some.ensures.here
    (is_not_of _ _ (Semi ∷ []) (c.in-Some.ensures.some c.args.room) (sym c.is_one_of.ensures ∙ c.if-is_one_of.false))) c.in_err-member.ensures.fault)

pub loop-token-preserved : goal.loop-token-preserved
loop-token-preserved c = rw c.in_ok-add.ensures (members_next _ _ _ c.loop-token.invariant c.in_ok-member.ensures.read)

pub returns : goal.returns
returns c = members_end _ _ _ c.loop-token.invariant (λ h. c.in_default.ensures.none (In_more _ _ member_firsts (Semi ∷ OptionWord ∷ TypeOptionWord ∷ Ident ∷ CoverpointWord ∷ CrossWord ∷ []) refl h))

pub loop-token-smaller : goal.loop-token-smaller
loop-token-smaller c = entry_falls c.args.reader.text.now c.args.reader.tokens.now (member_lawful c.args.reader.text.now c.args.reader.tokens.now) refl c.in_ok-member.ensures.read

pub loop-token-smaller-then-is_one_of : goal.loop-token-smaller-then-is_one_of
loop-token-smaller-then-is_one_of c = let n = one_next _ _ (c.in-Some.ensures.some c.args.room) in omega (arith, n.0, n.2)

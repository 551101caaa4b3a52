use Rattle.std.proofs.Common.{refl, sym, ◌∙◌, subst, IsSome}
use Rattle.cov_lexer.proofs.Found.{literal_within, numeral_spelled}
use Rattle.cov_lexer.proofs.pieces.literal_token.Goals as goal

pub returns-in-Some : goal.returns-in-Some
returns-in-Some c = rw c.token.ensures (record {
  stands = (record { piece = c.requires.piece; no_comment = c.requires.no_comment; within = literal_within c.args.text.now c.args.«at» c.args.«end» c.args.kind c.requires.literal (subst (λ o. IsSome o) (sym c.in-Some.is ∙ c.literal.ensures.is) refl) }, numeral_spelled c.args.text.now c.args.«at» c.args.«end» c.args.kind c.requires.literal);
  more = c.requires.more;
  inside = c.requires.inside;
})

pub returns-in-None : goal.returns-in-None
returns-in-None c = ((c.args.«end», c.args.kind, c.requires.literal, c.requires.piece, c.requires.no_comment, sym c.literal.ensures.is ∙ c.in-None.is), refl)

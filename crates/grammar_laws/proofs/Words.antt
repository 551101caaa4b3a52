-- The tokens that completions are made of, each of one kind, with its spelling.
use Rattle.std.proofs.Common.{[], ◌∷◌, true, refl, codes}
use Rattle.cov_lexer.specs.declared.token.TokenKind.TheVariants as lexed
use Rattle.cov_lexer.specs.declared.kind.Kind.TheVariants.{Ident, Numeral, Quoted, BinsWord, IffWord, DefaultWord, SequenceWord, WildcardWord, WithWord, OptionWord, TypedefWord, EnumWord, CovergroupWord, EndgroupWord, CoverpointWord, CrossWord, BinsofWord, IntersectWord, NewWord, OrWord, OpenParen, CloseParen, CloseSquare, OpenBrace, CloseBrace, Comma, Semi, Colon, Dot, AtSign, Assign, FatArrow, Question, DollarSign, Bang}
use Rattle.cov_lexer.specs.Spellings.{words, operators}
use Rattle.cov_grammar.specs.Rule.{word}
use Rattle.grammar_laws.proofs.Keeps.{Likeness, any}
use Rattle.grammar_laws.proofs.Completes.{Produces, one_produces}

module _ {S : Type 0} {R : Likeness S} where
  pub ident_token : Produces true R any (λ s text ts. word ts Ident)
  ident_token = one_produces (Ident ∷ []) Ident (codes "a") lexed.Ident refl refl refl refl

  pub numeral : Produces true R any (λ s text ts. word ts Numeral)
  numeral = one_produces (Numeral ∷ []) Numeral (codes "0") lexed.Decimal refl refl refl refl

  pub quoted : Produces true R any (λ s text ts. word ts Quoted)
  quoted = one_produces (Quoted ∷ []) Quoted (codes "\"\"") lexed.Text refl refl refl refl

  pub bins_word : Produces true R any (λ s text ts. word ts BinsWord)
  unfolding words operators
  bins_word = one_produces (BinsWord ∷ []) BinsWord (codes "bins") lexed.Keyword refl refl refl refl

  pub iff_word : Produces true R any (λ s text ts. word ts IffWord)
  unfolding words operators
  iff_word = one_produces (IffWord ∷ []) IffWord (codes "iff") lexed.Keyword refl refl refl refl

  pub default_word : Produces true R any (λ s text ts. word ts DefaultWord)
  unfolding words operators
  default_word = one_produces (DefaultWord ∷ []) DefaultWord (codes "default") lexed.Keyword refl refl refl refl

  pub sequence_word : Produces true R any (λ s text ts. word ts SequenceWord)
  unfolding words operators
  sequence_word = one_produces (SequenceWord ∷ []) SequenceWord (codes "sequence") lexed.Keyword refl refl refl refl

  pub wildcard_word : Produces true R any (λ s text ts. word ts WildcardWord)
  unfolding words operators
  wildcard_word = one_produces (WildcardWord ∷ []) WildcardWord (codes "wildcard") lexed.Keyword refl refl refl refl

  pub with_word : Produces true R any (λ s text ts. word ts WithWord)
  unfolding words operators
  with_word = one_produces (WithWord ∷ []) WithWord (codes "with") lexed.Keyword refl refl refl refl

  pub option_word : Produces true R any (λ s text ts. word ts OptionWord)
  unfolding words operators
  option_word = one_produces (OptionWord ∷ []) OptionWord (codes "option") lexed.Keyword refl refl refl refl

  pub typedef_word : Produces true R any (λ s text ts. word ts TypedefWord)
  unfolding words operators
  typedef_word = one_produces (TypedefWord ∷ []) TypedefWord (codes "typedef") lexed.Keyword refl refl refl refl

  pub enum_word : Produces true R any (λ s text ts. word ts EnumWord)
  unfolding words operators
  enum_word = one_produces (EnumWord ∷ []) EnumWord (codes "enum") lexed.Keyword refl refl refl refl

  pub covergroup_word : Produces true R any (λ s text ts. word ts CovergroupWord)
  unfolding words operators
  covergroup_word = one_produces (CovergroupWord ∷ []) CovergroupWord (codes "covergroup") lexed.Keyword refl refl refl refl

  pub endgroup_word : Produces true R any (λ s text ts. word ts EndgroupWord)
  unfolding words operators
  endgroup_word = one_produces (EndgroupWord ∷ []) EndgroupWord (codes "endgroup") lexed.Keyword refl refl refl refl

  pub coverpoint_word : Produces true R any (λ s text ts. word ts CoverpointWord)
  unfolding words operators
  coverpoint_word = one_produces (CoverpointWord ∷ []) CoverpointWord (codes "coverpoint") lexed.Keyword refl refl refl refl

  pub cross_word : Produces true R any (λ s text ts. word ts CrossWord)
  unfolding words operators
  cross_word = one_produces (CrossWord ∷ []) CrossWord (codes "cross") lexed.Keyword refl refl refl refl

  pub binsof_word : Produces true R any (λ s text ts. word ts BinsofWord)
  unfolding words operators
  binsof_word = one_produces (BinsofWord ∷ []) BinsofWord (codes "binsof") lexed.Keyword refl refl refl refl

  pub intersect_word : Produces true R any (λ s text ts. word ts IntersectWord)
  unfolding words operators
  intersect_word = one_produces (IntersectWord ∷ []) IntersectWord (codes "intersect") lexed.Keyword refl refl refl refl

  pub new_word : Produces true R any (λ s text ts. word ts NewWord)
  unfolding words operators
  new_word = one_produces (NewWord ∷ []) NewWord (codes "new") lexed.Keyword refl refl refl refl

  pub or_word : Produces true R any (λ s text ts. word ts OrWord)
  unfolding words operators
  or_word = one_produces (OrWord ∷ []) OrWord (codes "or") lexed.Keyword refl refl refl refl

  pub open_paren : Produces true R any (λ s text ts. word ts OpenParen)
  unfolding words operators
  open_paren = one_produces (OpenParen ∷ []) OpenParen (codes "(") lexed.Operator refl refl refl refl

  pub close_paren : Produces true R any (λ s text ts. word ts CloseParen)
  unfolding words operators
  close_paren = one_produces (CloseParen ∷ []) CloseParen (codes ")") lexed.Operator refl refl refl refl

  pub close_square : Produces true R any (λ s text ts. word ts CloseSquare)
  unfolding words operators
  close_square = one_produces (CloseSquare ∷ []) CloseSquare (codes "]") lexed.Operator refl refl refl refl

  pub open_brace : Produces true R any (λ s text ts. word ts OpenBrace)
  unfolding words operators
  open_brace = one_produces (OpenBrace ∷ []) OpenBrace (codes "{") lexed.Operator refl refl refl refl

  pub close_brace : Produces true R any (λ s text ts. word ts CloseBrace)
  unfolding words operators
  close_brace = one_produces (CloseBrace ∷ []) CloseBrace (codes "}") lexed.Operator refl refl refl refl

  pub comma : Produces true R any (λ s text ts. word ts Comma)
  unfolding words operators
  comma = one_produces (Comma ∷ []) Comma (codes ",") lexed.Operator refl refl refl refl

  pub semi : Produces true R any (λ s text ts. word ts Semi)
  unfolding words operators
  semi = one_produces (Semi ∷ []) Semi (codes ";") lexed.Operator refl refl refl refl

  pub colon : Produces true R any (λ s text ts. word ts Colon)
  unfolding words operators
  colon = one_produces (Colon ∷ []) Colon (codes ":") lexed.Operator refl refl refl refl

  pub dot : Produces true R any (λ s text ts. word ts Dot)
  unfolding words operators
  dot = one_produces (Dot ∷ []) Dot (codes ".") lexed.Operator refl refl refl refl

  pub at_sign : Produces true R any (λ s text ts. word ts AtSign)
  unfolding words operators
  at_sign = one_produces (AtSign ∷ []) AtSign (codes "@") lexed.Operator refl refl refl refl

  pub assign : Produces true R any (λ s text ts. word ts Assign)
  unfolding words operators
  assign = one_produces (Assign ∷ []) Assign (codes "=") lexed.Operator refl refl refl refl

  pub fat_arrow : Produces true R any (λ s text ts. word ts FatArrow)
  unfolding words operators
  fat_arrow = one_produces (FatArrow ∷ []) FatArrow (codes "=>") lexed.Operator refl refl refl refl

  pub question : Produces true R any (λ s text ts. word ts Question)
  unfolding words operators
  question = one_produces (Question ∷ []) Question (codes "?") lexed.Operator refl refl refl refl

  pub dollar_sign : Produces true R any (λ s text ts. word ts DollarSign)
  unfolding words operators
  dollar_sign = one_produces (DollarSign ∷ []) DollarSign (codes "$") lexed.Operator refl refl refl refl

  pub bang : Produces true R any (λ s text ts. word ts Bang)
  unfolding words operators
  bang = one_produces (Bang ∷ []) Bang (codes "!") lexed.Operator refl refl refl refl

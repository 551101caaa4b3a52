-- The grammar of values, sequences, bins and options (IEEE 1800-2017, 19.5 and 19.7).
use Rattle.std.specs.Prelude.{◌+◌, ◌-◌, ℕ, List, [], ◌∷◌, Option, Some, None, Bool, true, false, not, ◌&&◌, slice_range}
use Rattle.cov_tree.specs.declared.expr.Expr.{Expr}
use Rattle.cov_tree.specs.declared.bins.End.{End}
use Rattle.cov_tree.specs.declared.bins.End.TheVariants.{Value, Dollar}
use Rattle.cov_tree.specs.declared.bins.Elem.{Elem}
use Rattle.cov_tree.specs.declared.bins.Elem.TheVariants.{One, Span}
use Rattle.cov_tree.specs.declared.bins.Times.{Times}
use Rattle.cov_tree.specs.declared.bins.Times.TheVariants.{Once, Consec, Goto, NonConsec}
use Rattle.cov_tree.specs.declared.bins.Step.{Step}
use Rattle.cov_tree.specs.declared.bins.Size.{Size}
use Rattle.cov_tree.specs.declared.bins.Size.TheVariants.{Scalar, Open, Fixed}
use Rattle.cov_tree.specs.declared.bins.Right.{Right}
use Rattle.cov_tree.specs.declared.bins.Right.TheVariants.{Ranges, Whole, Trans, Default, DefaultSequence}
use Rattle.cov_tree.specs.declared.bins.Word.{Word}
use Rattle.cov_tree.specs.declared.bins.Word.TheVariants.{Bins, Illegal, Ignore}
use Rattle.cov_tree.specs.declared.bins.BinsDecl.{BinsDecl}
use Rattle.cov_tree.specs.declared.bins.OptText.{OptText}
use Rattle.cov_tree.specs.declared.bins.OptText.TheVariants.{Number, Text}
use Rattle.cov_tree.specs.declared.bins.OptDecl.{OptDecl}
use Rattle.cov_lexer.specs.declared.kind.Kind.{Kind}
use Rattle.cov_lexer.specs.declared.kind.Kind.TheVariants.{Ident, Quoted, BinsWord, IllegalBinsWord, IgnoreBinsWord, WildcardWord, IffWord, DefaultWord, SequenceWord, WithWord, OptionWord, TypeOptionWord, OpenParen, CloseParen, OpenIndex, OpenSquare, CloseSquare, OpenBrace, CloseBrace, Comma, Semi, Colon, Dot, Assign, FatArrow, ThinArrow, Star, DollarSign}
use Rattle.cov_grammar.specs.declared.marked.Marked.{Marked}
use Rattle.cov_grammar.specs.declared.place.Room.{Room}
use Rattle.cov_grammar.specs.declared.place.Standing.{Standing}
use Rattle.cov_grammar.specs.declared.place.Standing.TheVariants.{Plain, StepEnd}
use Rattle.cov_lexer.specs.Kinds.{has}
use Rattle.cov_grammar.specs.Rule.{Rule, one, word, here, bind, either, map_to, both, fold, ◌▸◌, ◌◂◌, allow, maybe}
use Rattle.cov_grammar.specs.Expressions.{pair, snoc, spelled, expr, whole_expr}

-- every `[`
abbrev pub squares : List Kind
squares = OpenIndex ∷ OpenSquare ∷ []

abbrev pub bins_words : List Kind
bins_words = BinsWord ∷ IllegalBinsWord ∷ IgnoreBinsWord ∷ []

-- a single end of a repetition is both ends
abbrev pub high_or : Expr → Option Expr → Expr
high_or low None = low
high_or low (Some high) = high

abbrev pub times_of : Kind → Expr → Expr → Times
times_of Star low high = Consec low high
times_of ThinArrow low high = Goto low high
times_of _ low high = NonConsec low high

abbrev pub repeated : Marked → Expr × Option Expr → Times
repeated t p = times_of t.kind p.0 (high_or p.0 p.1)

abbrev pub times_or_once : Option Times → Times
times_or_once None = Once
times_or_once (Some times) = times

abbrev pub size_of : Option (Option Expr) → Size
size_of None = Scalar
size_of (Some None) = Open
size_of (Some (Some e)) = Fixed e

abbrev pub is_scalar : Size → Bool
is_scalar Scalar = true
is_scalar _ = false

abbrev pub is_fixed : Size → Bool
is_fixed (Fixed e) = true
is_fixed _ = false

abbrev pub is_some : {A : Type 0} → Option A → Bool
is_some None = false
is_some (Some x) = true

abbrev pub bins_word_of : Kind → Word
bins_word_of BinsWord = Bins
bins_word_of IllegalBinsWord = Illegal
bins_word_of _ = Ignore

abbrev pub default_of : Option Marked → Right
default_of None = Default
default_of (Some t) = DefaultSequence

-- what stands before the `=` of bins but for its size
pub record BinsHead : Type 0 where
  pub wildcard : Bool
  pub kind : Word
  pub name : List ℕ
  pub start : ℕ

abbrev pub head_of : ℕ → Option Marked → Word × List ℕ → BinsHead
head_of start w p = record { wildcard = is_some w; kind = p.0; name = p.1; start = start }

abbrev pub bins_of_parts : BinsHead × Size → Right → Option Expr → BinsDecl
bins_of_parts h right guard = record { wildcard = h.0.wildcard; word = h.0.kind; name = h.0.name; size = h.1; right = right; guard = guard; at = h.0.start }

abbrev pub option_of : List ℕ → Marked → List ℕ × OptText → OptDecl
option_of text t p = record { on_type = has t.kind (TypeOptionWord ∷ []); name = p.0; value = p.1; at = t.at }

module _ (text : List ℕ) (ts : List Marked) where
  -- a name
  unfoldable pub ident : Rule (List ℕ)
  ident = map_to (spelled text) (word ts Ident)

  -- guard = "iff" "(" expr ")"
  unfoldable pub guard : Room → Rule Expr
  guard r = word ts IffWord ▸ word ts OpenParen ▸ expr text ts r ◂ word ts CloseParen

  -- end = expr | "$"
  unfoldable pub range_end : Room → Rule End
  range_end r = either (map_to Value (expr text ts r)) (map_to (λ t. Dollar t.at) (word ts DollarSign))

  -- "[" end ":" end "]"
  unfoldable pub span : Room → Rule Elem
  span r = both (λ (t : Marked) (p : End × End). Span p.0 p.1 t.at) (one ts squares) (both pair (range_end r) (word ts Colon ▸ range_end r) ◂ word ts CloseSquare)

  -- elem = expr | "[" end ":" end "]"
  unfoldable pub elem : Standing → Room → Rule Elem
  elem s r = either (map_to One (whole_expr text ts s r)) (span r)

  -- elems = elem { "," elem }
  unfoldable pub elems : Standing → Room → Rule (List Elem)
  elems s r = fold snoc (map_to (λ x. x ∷ []) (elem s r)) (word ts Comma ▸ elem s r)

  -- "[" ( "*" | "->" | "=" ) expr [ ":" expr ] "]"
  unfoldable pub repetition : Room → Rule Times
  repetition r =
      word ts OpenSquare ▸ both repeated (one ts (Star ∷ ThinArrow ∷ Assign ∷ [])) (both pair (expr text ts r) (maybe (word ts Colon ▸ expr text ts r))) ◂ word ts CloseSquare

  -- step = elems [ "[" ( "*" | "->" | "=" ) expr [ ":" expr ] "]" ]
  unfoldable pub step : Room → Rule Step
  step r = bind (here ts) (λ start.
      both (λ elems times. record { elems = elems; times = times_or_once times; at = start }) (elems StepEnd r) (maybe (repetition r)))

  -- seq = "(" step { "=>" step } ")"
  unfoldable pub seq : Room → Rule (List Step)
  seq r = word ts OpenParen ▸ fold snoc (map_to (λ x. x ∷ []) (step r)) (word ts FatArrow ▸ step r) ◂ word ts CloseParen

  -- seq { "," seq }
  unfoldable pub seqs : Room → Rule (List (List Step))
  seqs r = fold snoc (map_to (λ x. x ∷ []) (seq r)) (word ts Comma ▸ seq r)

  -- "with" "(" expr ")"
  unfoldable pub keep : Room → Rule Expr
  keep r = word ts WithWord ▸ word ts OpenParen ▸ expr text ts r ◂ word ts CloseParen

  -- values = "{" elems "}" [ "with" "(" expr ")" ] | ident "with" "(" expr ")"
  unfoldable pub values : Room → Rule Right
  values r = either
      (both Ranges (word ts OpenBrace ▸ elems Plain r ◂ word ts CloseBrace) (maybe (keep r)))
      (both Whole ident (keep r))

  -- [ "[" [ expr ] "]" ]
  unfoldable pub size : Room → Rule Size
  size r = map_to size_of (maybe (one ts squares ▸ maybe (expr text ts r) ◂ word ts CloseSquare))

  -- word = "bins" | "illegal_bins" | "ignore_bins"
  unfoldable pub bins_word : Rule Word
  bins_word = map_to (λ t. bins_word_of t.kind) (one ts bins_words)

  -- [ "wildcard" ] word ident
  unfoldable pub bins_head : Rule BinsHead
  bins_head = bind (here ts) (λ start. both (head_of start) (maybe (word ts WildcardWord)) (both pair bins_word ident))

  -- "default", and "sequence" behind it where no brackets stand
  unfoldable pub default_right : Size → Rule Right
  default_right s = both (λ _ q. default_of q) (word ts DefaultWord) (maybe (allow (is_scalar s) (word ts SequenceWord)))

  -- "default" without "wildcard" and a number in the brackets | values | seq { "," seq } without a number in the brackets
  unfoldable pub right : Bool → Size → Room → Rule Right
  right wildcard s r = either
      (allow (not wildcard && not (is_fixed s)) (default_right s))
      (either (values r) (allow (not (is_fixed s)) (map_to Trans (seqs r))))

  -- bins = word ident [ "[" "]" ] "=" "default" [ guard ] ";"
  --      | word ident "=" "default" "sequence" [ guard ] ";"
  --      | [ "wildcard" ] word ident [ "[" [ expr ] "]" ] "=" values [ guard ] ";"
  --      | [ "wildcard" ] word ident [ "[" "]" ] "=" seq { "," seq } [ guard ] ";"
  unfoldable pub bins : Room → Rule BinsDecl
  bins r = bind (both pair bins_head (size r)) (λ h.
      both (bins_of_parts h) (word ts Assign ▸ right h.0.wildcard h.1 r) (maybe (guard r) ◂ word ts Semi))

  -- string | expr
  unfoldable pub option_value : Room → Rule OptText
  option_value r = either (map_to (λ t. Text (slice_range text (t.at + 1) (t.at + t.len - 1))) (word ts Quoted)) (map_to Number (expr text ts r))

  -- optset = ( "option" | "type_option" ) "." ident "=" ( string | expr ) ";"
  unfoldable pub optset : Room → Rule OptDecl
  optset r = both (option_of text) (one ts (OptionWord ∷ TypeOptionWord ∷ [])) (word ts Dot ▸ both pair ident (word ts Assign ▸ option_value r ◂ word ts Semi))

-- The grammar of coverpoints, crosses and covergroups (IEEE 1800-2017, 19.3 to 19.6).
use Rattle.std.specs.Prelude.{ℕ, zero, suc, List, [], ◌∷◌, Option, Bool, true, false}
use Rattle.cov_tree.specs.declared.expr.Expr.{Expr}
use Rattle.cov_tree.specs.declared.bins.Elem.{Elem}
use Rattle.cov_tree.specs.declared.bins.BinsDecl.{BinsDecl}
use Rattle.cov_tree.specs.declared.bins.OptDecl.{OptDecl}
use Rattle.cov_tree.specs.declared.groups.Sel.{Sel}
use Rattle.cov_tree.specs.declared.groups.CrossBins.{CrossBins}
use Rattle.cov_tree.specs.declared.groups.Member.{Member}
use Rattle.cov_tree.specs.declared.groups.Member.TheVariants.{Opt, Point, Cross}
use Rattle.cov_tree.specs.Exprs.{bins_of, none_of, both_of, either_of}
use Rattle.cov_lexer.specs.declared.kind.Kind.TheVariants.{CoverpointWord, CrossWord, BinsofWord, IntersectWord, OpenParen, CloseParen, OpenBrace, CloseBrace, Comma, Semi, Colon, Dot, Assign, Bang, AndAnd, OrOr}
use Rattle.cov_grammar.specs.declared.marked.Marked.{Marked}
use Rattle.cov_grammar.specs.declared.place.Room.{Room}
use Rattle.cov_grammar.specs.declared.place.Standing.TheVariants.{Plain}
use Rattle.cov_grammar.specs.Rule.{Rule, one, word, counted, afresh, here, never, bind, either, many, map_to, both, fold, ◌▸◌, ◌◂◌, allow, maybe}
use Rattle.cov_grammar.specs.Expressions.{pair, snoc, expr}
use Rattle.cov_grammar.specs.Bins.{ident, guard, elems, bins_words, bins_word_of, bins, optset}

-- what stands one level deeper in a selection, where there is room for it
pub record SelInner : Type 1 where
  pub room : Bool
  pub inside : Rule Sel
  pub operand : Rule Sel

abbrev pub bins_of_token : Marked → (List ℕ × Option (List ℕ)) × Option (List Elem) → Sel
bins_of_token t p = bins_of p.0.0 p.0.1 p.1 t.at

-- what stands in the braces of a point or a cross: an option or bins
pub data Entry (A : Type 0) : Type 0 where
  Setting : OptDecl → Entry A
  Counting : A → Entry A

-- options and bins, in the order of each
abbrev pub put : {A : Type 0} → List OptDecl × List A → Entry A → List OptDecl × List A
put lists (Setting o) = (snoc lists.0 o, lists.1)
put lists (Counting b) = (lists.0, snoc lists.1 b)

abbrev pub nothing_put : {A : Type 0} → List OptDecl × List A
nothing_put = ([], [])

abbrev pub cross_bins_of : List ℕ → Marked → (List ℕ × Sel) × Option Expr → CrossBins
cross_bins_of text t p = record { word = bins_word_of t.kind; name = p.0.0; sel = p.0.1; guard = p.1; at = t.at }

abbrev pub point_of : ℕ → Option (List ℕ) → Expr × Option Expr → List OptDecl × List BinsDecl → Member
point_of start label p body = Point (record { label = label; expr = p.0; guard = p.1; options = body.0; bins = body.1; at = start })

abbrev pub cross_of : ℕ → Option (List ℕ) → List (List ℕ) × Option Expr → List OptDecl × List CrossBins → Member
cross_of start label p body = Cross (record { label = label; points = p.0; guard = p.1; options = body.0; bins = body.1; at = start })

module _ (text : List ℕ) (ts : List Marked) where
  -- "binsof" "(" ident [ "." ident ] ")" [ "intersect" "{" elems "}" ]
  unfoldable pub binsof_in : Room → Rule Sel
  binsof_in r = both bins_of_token (word ts BinsofWord)
      (both pair (word ts OpenParen ▸ both pair (ident text ts) (maybe (word ts Dot ▸ ident text ts)) ◂ word ts CloseParen)
      (maybe (word ts IntersectWord ▸ word ts OpenBrace ▸ elems text ts Plain r ◂ word ts CloseBrace)))

  -- "!" sunary
  unfoldable pub not_in : SelInner → Rule Sel
  not_in inner = allow inner.room (map_to none_of (word ts Bang ▸ inner.operand))

  -- "(" sel ")"
  unfoldable pub sel_paren_in : SelInner → Rule Sel
  sel_paren_in inner = allow inner.room (word ts OpenParen ▸ inner.inside ◂ word ts CloseParen)

  -- sunary = "!" sunary | "(" sel ")" | "binsof" "(" ident [ "." ident ] ")" [ "intersect" "{" elems "}" ]
  unfoldable pub sunary_in : Room → SelInner → Rule Sel
  sunary_in r inner = either (not_in inner) (either (sel_paren_in inner) (binsof_in r))

  -- sand = sunary { "&&" sunary }
  unfoldable pub sand_in : Room → SelInner → Rule Sel
  sand_in r inner = fold both_of (sunary_in r inner) (counted ts r.operators (AndAnd ∷ []) ▸ sunary_in r inner)

  -- sel = sand { "||" sand }
  unfoldable pub sel_in : Room → SelInner → Rule Sel
  sel_in r inner = fold either_of (sand_in r inner) (counted ts r.operators (OrOr ∷ []) ▸ sand_in r inner)

  -- with so many levels left
  unfoldable pub sel_inner_at : (limit : ℕ) → ℕ → SelInner
  sel_inner_at limit zero = record { room = false; inside = never; operand = never }
  sel_inner_at limit (suc d) = record {
    room = true;
    inside = sel_in (record { levels = d; operators = limit }) (sel_inner_at limit d);
    operand = sunary_in (record { levels = d; operators = limit }) (sel_inner_at limit d);
  }

  -- a selection, some of whose operators may stand before it
  abbrev pub part_sel : Room → Rule Sel
  part_sel r = sel_in r (sel_inner_at r.operators r.levels)

  -- a selection that stands in no other
  unfoldable pub sel : Room → Rule Sel
  sel r = afresh (part_sel r)

  -- cbins = word ident "=" sel [ guard ] ";"
  unfoldable pub cross_bins : Room → Rule CrossBins
  cross_bins r = both (cross_bins_of text) (one ts bins_words) (both pair (both pair (ident text ts) (word ts Assign ▸ sel r)) (maybe (guard text ts r)) ◂ word ts Semi)

  -- ";" | "{" { optset | X } "}"
  unfoldable pub body : {A : Type 0} → Rule A → Room → Rule (List OptDecl × List A)
  body X r = either (map_to (λ _. nothing_put) (word ts Semi))
      (word ts OpenBrace ▸ many put (either (map_to Setting (optset text ts r)) (map_to Counting X)) nothing_put ◂ word ts CloseBrace)

  -- point = [ ident ":" ] "coverpoint" expr [ guard ] ( ";" | "{" { optset | bins } "}" ), behind its label
  unfoldable pub point : ℕ → Option (List ℕ) → Room → Rule Member
  point start label r = both (point_of start label) (word ts CoverpointWord ▸ both pair (expr text ts r) (maybe (guard text ts r))) (body (bins text ts r) r)

  -- ident "," ident { "," ident }
  unfoldable pub crossed : Rule (List (List ℕ))
  crossed = fold snoc (both (λ a b. a ∷ b ∷ []) (ident text ts) (word ts Comma ▸ ident text ts)) (word ts Comma ▸ ident text ts)

  -- cross = [ ident ":" ] "cross" ident "," ident { "," ident } [ guard ] ( ";" | "{" { optset | cbins } "}" ), behind its label
  unfoldable pub cross : ℕ → Option (List ℕ) → Room → Rule Member
  cross start label r = both (cross_of start label) (word ts CrossWord ▸ both pair crossed (maybe (guard text ts r))) (body (cross_bins r) r)

  -- ident ":"
  unfoldable pub label : Rule (List ℕ)
  label = ident text ts ◂ word ts Colon

  -- point | cross
  unfoldable pub item : Room → Rule Member
  item r = bind (both pair (here ts) (maybe label)) (λ p. either (point p.0 p.1 r) (cross p.0 p.1 r))

  -- member = optset | point | cross | ";"
  unfoldable pub member : Room → Rule (List Member)
  member r = either (map_to (λ o. Opt o ∷ []) (optset text ts r)) (either (map_to (λ m. m ∷ []) (item r)) (map_to (λ _. []) (word ts Semi)))

-- The grammar of declarations, and of a whole design text (IEEE 1800-2017, 6.8, 6.19, 19.3 and 19.8.1).
use Rattle.std.specs.Prelude.{ℕ, List, [], ◌∷◌, ◌++◌, Option, Some, None, Bool, true, false, map, codes}
use Rattle.cov_tree.specs.declared.expr.Expr.{Expr}
use Rattle.cov_tree.specs.declared.groups.Member.{Member}
use Rattle.cov_tree.specs.declared.groups.Formal.{Formal}
use Rattle.cov_tree.specs.declared.groups.EdgeText.{EdgeText}
use Rattle.cov_tree.specs.declared.groups.EdgeKind.{EdgeKind}
use Rattle.cov_tree.specs.declared.groups.EdgeKind.TheVariants.{Any, Pos, Negative, Both}
use Rattle.cov_tree.specs.declared.declarations.TypeText.{TypeText}
use Rattle.cov_tree.specs.declared.declarations.TypeText.TheVariants.{Vector, Fixed, Named}
use Rattle.cov_tree.specs.declared.declarations.FixedWidth.{FixedWidth}
use Rattle.cov_tree.specs.declared.declarations.FixedWidth.TheVariants.{Bits8, Bits16, Bits32, Bits64}
use Rattle.cov_tree.specs.declared.declarations.Decl.{Decl}
use Rattle.cov_tree.specs.declared.declarations.Decl.TheVariants.{Enum, Var, Group, Instance}
use Rattle.cov_lexer.specs.declared.kind.Kind.{Kind}
use Rattle.cov_lexer.specs.declared.kind.Kind.TheVariants.{Ident, TypedefWord, EnumWord, BitWord, LogicWord, RegWord, ByteWord, ShortintWord, IntWord, LongintWord, IntegerWord, SignedWord, UnsignedWord, CovergroupWord, EndgroupWord, IffWord, WithWord, OtherWord, InputWord, RefWord, NewWord, PosedgeWord, NegedgeWord, EdgeWord, OrWord, OpenParen, CloseParen, CloseSquare, OpenBrace, CloseBrace, Comma, Semi, Colon, AtSign, Assign}
use Rattle.cov_grammar.specs.declared.marked.Marked.{Marked}
use Rattle.cov_grammar.specs.declared.place.Room.{Room}
use Rattle.cov_lexer.specs.Kinds.{has}
use Rattle.cov_grammar.specs.Rule.{Rule, one, word, same_word, here, bind, either, many, map_to, both, fold, ◌▸◌, ◌◂◌, maybe}
use Rattle.cov_grammar.specs.Expressions.{pair, snoc, spelled, expr, list_in}
use Rattle.cov_grammar.specs.Bins.{squares, ident}
use Rattle.cov_grammar.specs.Groups.{member}

abbrev pub vector_words : List Kind
vector_words = BitWord ∷ LogicWord ∷ RegWord ∷ []

abbrev pub fixed_words : List Kind
fixed_words = ByteWord ∷ ShortintWord ∷ IntWord ∷ LongintWord ∷ IntegerWord ∷ []

abbrev pub width_of : Kind → FixedWidth
width_of ByteWord = Bits8
width_of ShortintWord = Bits16
width_of LongintWord = Bits64
width_of _ = Bits32

-- whether the type is signed, by its sign, and without one (6.11)
abbrev pub signed_or : Bool → Option Marked → Bool
signed_or without None = without
signed_or without (Some t) = has t.kind (SignedWord ∷ [])

abbrev pub vector_of : Marked → Option Marked × Option (Expr × Expr) → TypeText
vector_of t p = Vector (signed_or false p.0) p.1 t.at

abbrev pub fixed_of : Marked → Option Marked → TypeText
fixed_of t s = Fixed (width_of t.kind) (signed_or true s)

abbrev pub named_type : List ℕ → Marked → TypeText
named_type text t = Named (spelled text t) t.at

-- a declaration of several variables gives one of each
abbrev pub variables : List ℕ → TypeText → List Marked → List Decl
variables text type names = map (λ t. Var type (spelled text t) t.at) names

abbrev pub enum_of : Marked → Option TypeText × List (List ℕ × Option Expr) → List ℕ → List Decl
enum_of t p name = Enum name p.0 p.1 t.at ∷ []

abbrev pub list_or : {A : Type 0} → Option (List A) → List A
list_or None = []
list_or (Some xs) = xs

abbrev pub arguments_or : Option (Option (List Expr)) → List Expr
arguments_or None = []
arguments_or (Some xs) = list_or xs

abbrev pub instance_of : List ℕ → Marked × Marked → List Expr → List Decl
instance_of text p args = Instance (spelled text p.0) (spelled text p.1) args p.0.at ∷ []

-- a formal as it is written
pub record Written : Type 0 where
  pub start : ℕ
  pub direction : Option Marked
  pub type : TypeText
  pub name : List ℕ
  pub default : Option Expr

abbrev pub written : ℕ → Option Marked → (TypeText × List ℕ) × Option Expr → Written
written start d p = record { start = start; direction = d; type = p.0.0; name = p.0.1; default = p.1 }

-- whether the last formal is `ref`
abbrev pub last_is_ref : List Formal → Bool
last_is_ref [] = false
last_is_ref (f ∷ []) = f.by_ref
last_is_ref (f ∷ g ∷ fs) = last_is_ref (g ∷ fs)

abbrev pub is_ref_or : Bool → Option Marked → Bool
is_ref_or last None = last
is_ref_or last (Some t) = has t.kind (RefWord ∷ [])

-- a formal without a direction has that of the formal before it, the first one `input` (13.3)
abbrev pub with_formal : List Formal → Written → List Formal
with_formal fs w = snoc fs (record { by_ref = is_ref_or (last_is_ref fs) w.direction; typ = w.type; name = w.name; default = w.default; at = w.start })

abbrev pub edge_kind : Kind → EdgeKind
edge_kind PosedgeWord = Pos
edge_kind NegedgeWord = Negative
edge_kind _ = Both

abbrev pub edge_or_any : Option Marked → EdgeKind
edge_or_any None = Any
edge_or_any (Some t) = edge_kind t.kind

abbrev pub edge_of : Option Marked → List ℕ × Option Expr → EdgeText
edge_of k p = record { kind = edge_or_any k; name = p.0; guard = p.1 }

-- an argument of a sample function is `input`, with no default
abbrev pub argument_of : ℕ → TypeText → List ℕ → Formal
argument_of start type name = record { by_ref = false; typ = type; name = name; default = None; at = start }

-- what samples a group: the parts of its event, and the arguments of its sample function
abbrev pub by_event : List EdgeText → List EdgeText × List Formal
by_event edges = (edges, [])

abbrev pub by_function : List Formal → List EdgeText × List Formal
by_function args = ([], args)

abbrev pub sampling_or : Option (List EdgeText × List Formal) → List EdgeText × List Formal
sampling_or None = ([], [])
sampling_or (Some p) = p

abbrev pub group_of : Marked × List ℕ → (List Formal × (List EdgeText × List Formal)) × List Member → Option Marked → List Decl
group_of h p e = Group h.1 p.0.0 p.0.1.0 p.0.1.1 p.1 h.0.at ∷ []

module _ (text : List ℕ) (ts : List Marked) where
  -- [ sign ], sign = "signed" | "unsigned"
  unfoldable pub sign : Rule (Option Marked)
  sign = maybe (one ts (SignedWord ∷ UnsignedWord ∷ []))

  -- "[" expr ":" expr "]"
  unfoldable pub vector_span : Room → Rule (Expr × Expr)
  vector_span r = one ts squares ▸ both pair (expr text ts r) (word ts Colon ▸ expr text ts r) ◂ word ts CloseSquare

  -- vector = ( "bit" | "logic" | "reg" ) [ sign ] [ "[" expr ":" expr "]" ]
  unfoldable pub vector : Room → Rule TypeText
  vector r = both vector_of (one ts vector_words) (both pair sign (maybe (vector_span r)))

  -- fixed = ( "byte" | "shortint" | "int" | "longint" | "integer" ) [ sign ]
  unfoldable pub fixed : Rule TypeText
  fixed = both fixed_of (one ts fixed_words) sign

  -- vector | fixed
  unfoldable pub built_in : Room → Rule TypeText
  built_in r = either (vector r) fixed

  -- type = vector | fixed | ident
  unfoldable pub type_text : Room → Rule TypeText
  type_text r = either (built_in r) (map_to (named_type text) (word ts Ident))

  -- ename = ident [ "=" expr ]
  unfoldable pub enum_name : Room → Rule (List ℕ × Option Expr)
  enum_name r = both pair (ident text ts) (maybe (word ts Assign ▸ expr text ts r))

  -- ename { "," ename }
  unfoldable pub enum_names : Room → Rule (List (List ℕ × Option Expr))
  enum_names r = fold snoc (map_to (λ x. x ∷ []) (enum_name r)) (word ts Comma ▸ enum_name r)

  -- enumdecl = "typedef" "enum" [ vector ] "{" ename { "," ename } "}" ident ";"
  unfoldable pub enum_decl : Room → Rule (List Decl)
  enum_decl r = bind (word ts TypedefWord) (λ t.
      both (enum_of t) (word ts EnumWord ▸ both pair (maybe (vector r)) (word ts OpenBrace ▸ enum_names r ◂ word ts CloseBrace)) (ident text ts ◂ word ts Semi))

  -- vardecl = type ident { "," ident } ";", where the type is no name
  unfoldable pub built_in_decl : Room → Rule (List Decl)
  built_in_decl r = both (variables text) (built_in r) (fold snoc (map_to (λ t. t ∷ []) (word ts Ident)) (word ts Comma ▸ word ts Ident) ◂ word ts Semi)

  -- "(" [ expr { "," expr } ] ")"
  unfoldable pub arguments : Room → Rule (Option (List Expr))
  arguments r = word ts OpenParen ▸ maybe (list_in text ts (expr text ts r)) ◂ word ts CloseParen

  -- instance = ident ident "=" "new" [ "(" [ expr { "," expr } ] ")" ] ";", behind its two names
  unfoldable pub instance_rest : Marked × Marked → Room → Rule (List Decl)
  instance_rest p r = map_to (λ a. instance_of text p (arguments_or a)) (word ts Assign ▸ word ts NewWord ▸ maybe (arguments r) ◂ word ts Semi)

  -- vardecl = ident ident { "," ident } ";", behind its first two names
  unfoldable pub variables_rest : Marked × Marked → Rule (List Decl)
  variables_rest p = map_to (variables text (named_type text p.0)) (many snoc (word ts Comma ▸ word ts Ident) (p.1 ∷ []) ◂ word ts Semi)

  -- an instance, or variables whose type is a name
  unfoldable pub named_decl : Room → Rule (List Decl)
  named_decl r = bind (both pair (word ts Ident) (word ts Ident)) (λ p. either (instance_rest p r) (variables_rest p))

  -- formal = [ "input" | "ref" ] type ident [ "=" expr ]
  unfoldable pub formal : Room → Rule Written
  formal r = bind (here ts) (λ start.
      both (written start) (maybe (one ts (InputWord ∷ RefWord ∷ [])))
      (both pair (both pair (type_text r) (ident text ts)) (maybe (word ts Assign ▸ expr text ts r))))

  -- formal { "," formal }
  unfoldable pub formal_list : Room → Rule (List Formal)
  formal_list r = fold with_formal (map_to (with_formal []) (formal r)) (word ts Comma ▸ formal r)

  -- [ "(" [ formal { "," formal } ] ")" ]
  unfoldable pub formals : Room → Rule (List Formal)
  formals r = map_to list_or (maybe (map_to list_or (word ts OpenParen ▸ maybe (formal_list r) ◂ word ts CloseParen)))

  -- edge = [ "posedge" | "negedge" | "edge" ] ident [ "iff" expr ]
  unfoldable pub edge : Room → Rule EdgeText
  edge r = both edge_of (maybe (one ts (PosedgeWord ∷ NegedgeWord ∷ EdgeWord ∷ []))) (both pair (ident text ts) (maybe (word ts IffWord ▸ expr text ts r)))

  -- event = "@" "(" edge { ( "or" | "," ) edge } ")"
  unfoldable pub event : Room → Rule (List EdgeText)
  event r = word ts AtSign ▸ word ts OpenParen ▸ fold snoc (map_to (λ x. x ∷ []) (edge r)) (one ts (OrWord ∷ Comma ∷ []) ▸ edge r) ◂ word ts CloseParen

  -- sarg = [ "input" ] type ident
  unfoldable pub argument : Room → Rule Formal
  argument r = bind (here ts) (λ start. both (argument_of start) (maybe (word ts InputWord) ▸ type_text r) (ident text ts))

  -- sarg { "," sarg }
  unfoldable pub argument_list : Room → Rule (List Formal)
  argument_list r = fold snoc (map_to (λ x. x ∷ []) (argument r)) (word ts Comma ▸ argument r)

  -- "(" [ sarg { "," sarg } ] ")"
  unfoldable pub argument_parens : Room → Rule (List Formal)
  argument_parens r = map_to list_or (word ts OpenParen ▸ maybe (argument_list r) ◂ word ts CloseParen)

  -- sampled = "with" "function" "sample" "(" [ sarg { "," sarg } ] ")"
  unfoldable pub sampled : Room → Rule (List Formal)
  sampled r = word ts WithWord ▸ same_word text ts OtherWord (codes "function") ▸ same_word text ts Ident (codes "sample") ▸ argument_parens r

  -- [ event | sampled ]
  unfoldable pub sampling : Room → Rule (List EdgeText × List Formal)
  sampling r = map_to sampling_or (maybe (either (map_to by_event (event r)) (map_to by_function (sampled r))))

  -- { member }
  unfoldable pub members : Room → Rule (List Member)
  members r = many (λ xs x. xs ++ x) (member text ts r) []

  -- "endgroup" [ ":" ident ], and that name is the group's
  unfoldable pub group_end : List ℕ → Rule (Option Marked)
  group_end name = word ts EndgroupWord ▸ maybe (word ts Colon ▸ same_word text ts Ident name)

  -- group = "covergroup" ident [ "(" [ formal { "," formal } ] ")" ] [ event | sampled ] ";" { member } "endgroup" [ ":" ident ]
  unfoldable pub group : Room → Rule (List Decl)
  group r = bind (both pair (word ts CovergroupWord) (ident text ts)) (λ h.
      both (group_of h) (both pair (both pair (formals r) (sampling r)) (word ts Semi ▸ members r)) (group_end h.1))

  -- enumdecl | vardecl | group | instance
  unfoldable pub decl : Room → Rule (List Decl)
  decl r = either (enum_decl r) (either (group r) (either (built_in_decl r) (named_decl r)))

  -- design = { enumdecl | vardecl | group | instance }
  unfoldable pub design : Room → Rule (List Decl)
  design r = many (λ xs x. xs ++ x) (decl r) []

-- Histories of the same changes have the same words, whoever made them.
use Rattle.std.proofs.Common.{◌≡◌, ℕ, zero, suc, ◌+◌, Bool, ◌&&◌, ◌||◌, not, cond, List, [], ◌∷◌, ◌++◌, length, map, take, drop, get_or, refl, sym, ap, ◌∙◌, arith, is_none, Option, Some, None, nat_lt}
use Rattle.std.specs.Prelude.{find, sum_by, bytes_eq, if◌then◌else◌}
use Rattle.std.specs.List.{list_any}
use Rattle.std.proofs.lemmas.List.{map-append, length-map}
use Rattle.std.proofs.lemmas.List.Sums.{sum_by-cons}
use Rattle.design_data.specs.declared.design.Design.{Design}
use Rattle.record_codec.specs.declared.record.Record.{Record}
use Rattle.ucis_model.specs.declared.answers.Which.{Which}
use Rattle.ucis_model.specs.declared.answers.Which.TheVariants.{Tests, Bytes, Entries, History}
use Rattle.ucis_model.specs.declared.answers.Answer.{Answer}
use Rattle.ucis_model.specs.declared.answers.Answer.TheVariants as answers
use Rattle.ucis_model.specs.Nodes.{nodes_of}
use Rattle.ucis_model.specs.Paths.{find_in}
use Rattle.cov_history.specs.declared.entry.Event.{Event}
use Rattle.cov_history.specs.declared.entry.Event.TheVariants.{Admit, Exclude, Include, Revise, Stop}
use Rattle.cov_history.specs.declared.entry.Entry.{Entry}
use Rattle.cov_history.specs.declared.asks.Ask.{Ask}
use Rattle.cov_history.specs.declared.asks.Ask.TheVariants as ask
use Rattle.cov_history.specs.Tables.{fits}
use Rattle.cov_history.specs.History.{Test, design_of, design_after, tests_in, tests_from, contents, kept, out_of, out_from, out_after, has, is_found, is_stop, is_revise, is_test_or_revise, bytes_in, bins_hit, amount, most, passed, suits, may_follow, legal_from}
use Rattle.cov_history.specs.Answers.{stands_since, test_row, at_node, unless_full, change, admit_by, by, is_made, table, answer_at}
use Rattle.cov_history.specs.Laws.{CallersDontMatter}
use Rattle.cov_history.proofs.Alike.{same_table}

abbrev Same : List Entry → List Entry → Type 0
Same a b = map (λ e. e.event) a ≡ map (λ e. e.event) b

module _ {X : Type 0} where
  first_same : (x y : X) (xs ys : List X) → x ∷ xs ≡ y ∷ ys → x ≡ y
  first_same x y xs ys p = ap (λ (zs : List X). get_or zs 0 x) p

  rest_same : (x y : X) (xs ys : List X) → x ∷ xs ≡ y ∷ ys → xs ≡ ys
  rest_same x y xs ys p = ap (λ (zs : List X). drop 1 zs) p

  not_more : (x : X) (xs : List X) → [] ≡ x ∷ xs → ⊥
  not_more x xs p = omega (arith, ap (λ (zs : List X). length zs) p)

  not_less : (x : X) (xs : List X) → x ∷ xs ≡ [] → ⊥
  not_less x xs p = omega (arith, ap (λ (zs : List X). length zs) p)

-- ---- word by word

design_same : (d : Design) (a b : List Entry) → Same a b → design_of d a ≡ design_of d b
design_same d [] [] p = refl
design_same d [] (y ∷ b) p = absurd (not_more _ _ p)
design_same d (x ∷ a) [] p = absurd (not_less _ _ p)
design_same d (x ∷ a) (y ∷ b) p = ap (λ (e : Event). design_of (design_after d e) a) (first_same _ _ _ _ p) ∙ design_same (design_after d y.event) a b (rest_same _ _ _ _ p)

tests_same : (point : ℕ) (a b : List Entry) → Same a b → tests_from point a ≡ tests_from point b
tests_same point [] [] p = refl
tests_same point [] (y ∷ b) p = absurd (not_more _ _ p)
tests_same point (x ∷ a) [] p = absurd (not_less _ _ p)
tests_same point (x ∷ a) (y ∷ b) p = let e = first_same _ _ _ _ p in let rest = tests_same (point + 1) a b (rest_same _ _ _ _ p) in λ i. tests_in (point + 1) (e i) ++ rest i

out_same : (out : List (List ℕ)) (a b : List Entry) → Same a b → out_from out a ≡ out_from out b
out_same out [] [] p = refl
out_same out [] (y ∷ b) p = absurd (not_more _ _ p)
out_same out (x ∷ a) [] p = absurd (not_less _ _ p)
out_same out (x ∷ a) (y ∷ b) p = ap (λ (e : Event). out_from (out_after out e) a) (first_same _ _ _ _ p) ∙ out_same (out_after out y.event) a b (rest_same _ _ _ _ p)

any_same : (test : Event → Bool) (a b : List Entry) → Same a b → list_any (λ e. test e.event) a ≡ list_any (λ e. test e.event) b
any_same test [] [] p = refl
any_same test [] (y ∷ b) p = absurd (not_more _ _ p)
any_same test (x ∷ a) [] p = absurd (not_less _ _ p)
any_same test (x ∷ a) (y ∷ b) p = let e = first_same _ _ _ _ p in let rest = any_same test a b (rest_same _ _ _ _ p) in λ i. test (e i) || rest i

since_same : (test : Event → Bool) (since : ℕ) (a b : List Entry) → Same a b → stands_since test a since ≡ stands_since test b since
since_same test zero a b p = any_same test a b p
since_same test (suc n) [] [] p = refl
since_same test (suc n) [] (y ∷ b) p = absurd (not_more _ _ p)
since_same test (suc n) (x ∷ a) [] p = absurd (not_less _ _ p)
since_same test (suc n) (x ∷ a) (y ∷ b) p = since_same test n a b (rest_same _ _ _ _ p)

sum_same : (f : Event → ℕ) (a b : List Entry) → Same a b → sum_by (λ e. f e.event) a ≡ sum_by (λ e. f e.event) b
sum_same f [] [] p = refl
sum_same f [] (y ∷ b) p = absurd (not_more _ _ p)
sum_same f (x ∷ a) [] p = absurd (not_less _ _ p)
sum_same f (x ∷ a) (y ∷ b) p =
    let e = first_same _ _ _ _ p in
    let rest = sum_same f a b (rest_same _ _ _ _ p) in
    sum_by-cons (λ (z : Entry). f z.event) x a ∙ (λ i. f (e i) + rest i) ∙ sym (sum_by-cons (λ (z : Entry). f z.event) y b)

length_same : (a b : List Entry) → Same a b → length a ≡ length b
length_same a b p = sym (length-map a (λ (e : Entry). e.event)) ∙ ap (λ (es : List Event). length es) p ∙ length-map b (λ (e : Entry). e.event)

same_snoc : (a b : List Entry) (e f : Entry) → Same a b → e.event ≡ f.event → Same (a ++ e ∷ []) (b ++ f ∷ [])
same_snoc a b e f p q = map-append (λ (x : Entry). x.event) a (e ∷ []) ∙ (λ i. p i ++ q i ∷ []) ∙ sym (map-append (λ (x : Entry). x.event) b (f ∷ []))

amount_same : (opening : Design) (a b : List Entry) → Same a b → (which : Which) → amount opening a which ≡ amount opening b which
amount_same opening a b p Tests = ap (λ (ts : List Test). length ts) (tests_same 0 a b p)
amount_same opening a b p Bytes = sum_same bytes_in a b p
amount_same opening a b p Entries = let d = design_same opening a b p in let t = tests_same 0 a b p in λ i. sum_by (bins_hit (d i)) (map (λ (x : Test). x.content) (t i))
amount_same opening a b p History = let c = sum_same (λ e. cond (not (is_stop e)) 1 0) a b p in let o = out_same [] a b p in λ i. c i + length (o i)

passed_same : (opening : Design) (a b : List Entry) → Same a b → passed opening a ≡ passed opening b
passed_same opening a b p = λ i. find (λ which. nat_lt (most which) (amount_same opening a b p which i)) (Tests ∷ Bytes ∷ Entries ∷ History ∷ [])

-- ---- legality

kept_same : (a b : List Entry) → Same a b → (id : List ℕ) → kept a id ≡ kept b id
kept_same a b p id = ap (find (λ (t : Test). bytes_eq id t.content.id)) (tests_same 0 a b p)

suits_same : (opening : Design) (a b : List Entry) → Same a b → (e : Event) → suits opening a e ≡ suits opening b e
suits_same opening a b p (Admit r) = let k = kept_same a b p r.id in let d = design_same opening a b p in λ i. is_none (k i) && fits (d i) r
suits_same opening a b p (Exclude path) = let d = design_same opening a b p in let o = out_same [] a b p in λ i. is_found (d i) path && not (has path (o i))
suits_same opening a b p (Include path) = ap (has path) (out_same [] a b p)
suits_same opening a b p (Revise revision) = refl
suits_same opening a b p Stop = refl

follow_same : (opening : Design) (a b : List Entry) (e f : Entry) → Same a b → e.event ≡ f.event → may_follow opening a e ≡ may_follow opening b f
follow_same opening a b e f p q =
    let s = any_same is_stop a b p in
    let t = suits_same opening a b p e.event ∙ ap (suits opening b) q in
    let n = passed_same opening (a ++ e ∷ []) (b ++ f ∷ []) (same_snoc a b e f p q) in
    λ i. not (s i) && (t i && is_none (n i))

legal_same : (opening : Design) (before other a b : List Entry) → Same before other → Same a b → legal_from opening before a ≡ legal_from opening other b
legal_same opening before other [] [] o p = refl
legal_same opening before other [] (y ∷ b) o p = absurd (not_more _ _ p)
legal_same opening before other (x ∷ a) [] o p = absurd (not_less _ _ p)
legal_same opening before other (x ∷ a) (y ∷ b) o p =
    let e = first_same _ _ _ _ p in
    let m = follow_same opening before other x y o e in
    let rest = legal_same opening (before ++ x ∷ []) (other ++ y ∷ []) a b (same_snoc before other x y o e) (rest_same _ _ _ _ p) in
    λ i. m i && rest i

-- ---- answers

module _ (opening : Design) (a b : List Entry) (p : Same a b) (caller other : ℕ) where
  contents_same : contents a ≡ contents b
  contents_same = ap (map (λ (t : Test). t.content)) (tests_same 0 a b p)

  full_same : (e : Event) (o : Option Which) (x : Answer) → unless_full opening a (a ++ by caller e ∷ []) o x ≡ unless_full opening b (b ++ by other e ∷ []) o x
  full_same e None x = refl
  full_same e (Some which) x =
      let now = amount_same opening a b p which in
      let after = amount_same opening (a ++ by caller e ∷ []) (b ++ by other e ∷ []) (same_snoc a b (by caller e) (by other e) p refl) which in
      λ i. answers.Full which (now i) (after i)

  change_same : (e : Event) (x : Answer) → change opening a (by caller e) x ≡ change opening b (by other e) x
  change_same e x =
      ap (λ (o : Option Which). unless_full opening a (a ++ by caller e ∷ []) o x) (passed_same opening (a ++ by caller e ∷ []) (b ++ by other e ∷ []) (same_snoc a b (by caller e) (by other e) p refl))
      ∙ full_same e (passed opening (b ++ by other e ∷ [])) x

  design_both : design_of opening a ≡ design_of opening b
  design_both = design_same opening a b p

  out_both : out_of a ≡ out_of b
  out_both = out_same [] a b p

  admit_by_same : (since : ℕ) (r : Record) (o : Option Test) → admit_by opening a since (by caller (Admit r)) r o ≡ admit_by opening b since (by other (Admit r)) r o
  admit_by_same since r None = let s = since_same is_revise since a b p in let c = change_same (Admit r) answers.New in λ i. if s i then answers.Moved since else c i
  admit_by_same since r (Some t) = refl

  table_same : (query : Ask) → table opening a caller query ≡ table opening b other query
  unfolding table
  table_same (ask.Hello point) = let n = length_same a b p in let d = design_both in λ i. if nat_lt (n i) point then answers.Ahead (n i) else answers.Welcome (d i).bin_count
  table_same (ask.Tests first) = let t = tests_same 0 a b p in λ i. answers.TestRows (length (t i)) (map test_row (take 1024 (drop first (t i))))
  table_same (ask.Admit since r) = ap (admit_by opening a since (by caller (Admit r)) r) (kept_same a b p r.id) ∙ admit_by_same since r (kept b r.id)
  table_same (ask.Exclude path) =
      let d = design_both in let o = out_both in let c = change_same (Exclude path) answers.Changed in
      λ i. at_node (find_in (nodes_of (d i)) path) (λ n. if has path (o i) then answers.AlreadyExcluded else c i)
  table_same (ask.Include path) = let d = design_both in let o = out_both in λ i. at_node (find_in (nodes_of (d i)) path) (λ n. if has path (o i) then answers.Changed else answers.NotExcluded)
  table_same (ask.Revise since revision) = let s = since_same is_test_or_revise since a b p in let c = change_same (Revise revision) answers.Changed in λ i. if s i then answers.Moved since else c i
  table_same (ask.Counts first path) = same_table opening a b design_both contents_same out_both caller other (ask.Counts first path) refl
  table_same (ask.TestCounts first id path) = same_table opening a b design_both contents_same out_both caller other (ask.TestCounts first id path) refl
  table_same (ask.Illegal first) = same_table opening a b design_both contents_same out_both caller other (ask.Illegal first) refl
  table_same (ask.Coverage path) = same_table opening a b design_both contents_same out_both caller other (ask.Coverage path) refl
  table_same ask.Rank = same_table opening a b design_both contents_same out_both caller other ask.Rank refl
  table_same (ask.NameOf bin) = same_table opening a b design_both contents_same out_both caller other (ask.NameOf bin) refl
  table_same (ask.Fetch place offset) = same_table opening a b design_both contents_same out_both caller other (ask.Fetch place offset) refl

  answer_same : (query : Ask) → answer_at opening a caller query ≡ answer_at opening b other query
  answer_same query = let s = any_same is_stop a b p in let t = table_same query in λ i. if s i && is_made (t i) then answers.Stopped else t i

pub callers_same : CallersDontMatter
callers_same opening a b p = record {
  legal = legal_same opening [] [] a b refl p;
  answers = λ caller other query. answer_same opening a b p caller other query;
}

-- Nodes that are taken out, and put back.
use Rattle.std.proofs.Common.{◌≡◌, ℕ, ◌+◌, ◌<◌, ◌≤◌, Bool, true, false, not, cond, List, [], ◌∷◌, ◌++◌, length, refl, sym, ap, ◌∙◌, arith, length-append, Option, Some, None, is_some, lt-ltb, le-ltb}
use Rattle.std.specs.Prelude.{count_by, slice_index_or, slice_set}
use Rattle.std.specs.List.{list_any}
use Rattle.std.proofs.lemmas.List.Sums.{sum_by-cons}
use Rattle.design_data.specs.declared.design.Design.{Design}
use Rattle.ucis_model.specs.declared.node.Node.{Node}
use Rattle.ucis_model.specs.declared.answers.Which.{Which}
use Rattle.ucis_model.specs.declared.answers.Which.TheVariants.{Tests, Bytes, Entries, History}
use Rattle.ucis_model.specs.declared.answers.Answer.TheVariants as answer
use Rattle.ucis_model.specs.Paths.{find_in}
use Rattle.cov_history.specs.declared.entry.Event.TheVariants.{Exclude, Include}
use Rattle.cov_history.specs.declared.entry.Entry.{Entry}
use Rattle.cov_history.specs.Coverage.{is_out}
use Rattle.cov_history.specs.History.{Test, out_of, has, without, is_stop, has_stop, amount, most, is_over, passed, suits}
use Rattle.cov_history.specs.Answers.{exclude_at, include_at, nodes_at, by}
use Rattle.cov_history.proofs.Bools.{or_none}
use Rattle.cov_history.proofs.Snoc.{history_snoc}
use Rattle.cov_history.proofs.Legal.{none_passed}
use Rattle.store_parts.specs.Keeps.{Keeps, path_at}
use Rattle.store_parts.specs.May.{MayExclude}
use Rattle.store_parts.proofs.Outs.{has_is, out_is, out_more, out_less, outs_less, path_at_is}
use Rattle.store_parts.proofs.Steps.{quiet_exclude, quiet_include, tests_few, bytes_few, entries_few, quiet_within, quiet_keeps}

count_going : (h : List Entry) → has_stop h ≡ false → count_by (λ (e : Entry). not (is_stop e.event)) h ≡ length h
count_going [] going = refl
count_going (e ∷ es) going =
    let q = or_none (is_stop e.event) (list_any (λ (x : Entry). is_stop x.event) es) going in
    let c = sum_by-cons (λ (x : Entry). cond (not (is_stop x.event)) 1 0) e es in
    let one : ◌≡◌ {A = ℕ} (cond (not (is_stop e.event)) 1 0) 1 = rw (q.0) refl in
    omega (arith, c, one, count_going es q.1)

-- the amount of history, where nothing stopped
pub history_amount : (opening : Design) (h : List Entry) → has_stop h ≡ false → amount opening h History ≡ length h + length (out_of h)
history_amount opening h going = ap (λ n. n + length (out_of h)) (count_going h going)

is_none_of : {A : Type 0} (o : Option A) → is_some o ≡ false → o ≡ None
is_none_of None e = refl
is_none_of (Some x) e = absurd (cc)

module _ {opening design : Design} {nodes : List Node} {h : List Entry} {tests : List (List ℕ × Test)} {tallies : List (List (ℕ × ℕ))} {counts : List ℕ} {out : List (Option (List ℕ))} {outs bytes entries revised : ℕ} (k : Keeps opening design nodes h tests tallies counts out outs bytes entries revised) where
  -- whether a node is out is whether a path stands there
  pub out_flag : (n : ℕ) → is_out (nodes_at opening h) (out_of h) n ≡ is_some (slice_index_or out n None)
  out_flag n = ap (λ (ns : List Node). is_out ns (out_of h) n) (sym k.nodes_are) ∙ out_is nodes n (out_of h) ∙ ap is_some (sym (k.outs_are.at n))

  pub history_is : amount opening h History ≡ length h + outs
  history_is = history_amount opening h k.going ∙ ap (λ n. length h + n) (sym k.outs_are.count)

  module _ (path : List ℕ) (n : ℕ) (found : find_in nodes path ≡ Some n) where
    pub found_now : find_in (nodes_at opening h) path ≡ Some n
    found_now = ap (λ (ns : List Node). find_in ns path) (sym k.nodes_are) ∙ found

    has_flag : has path (out_of h) ≡ is_some (slice_index_or out n None)
    has_flag = has_is nodes path n found (out_of h) ∙ ap is_some (sym (k.outs_are.at n))

    pub has_as : (b : Bool) → is_out (nodes_at opening h) (out_of h) n ≡ b → has path (out_of h) ≡ b
    has_as b e = has_flag ∙ sym (out_flag n) ∙ e

    -- ---- exclude

    pub exclude_already : (caller : ℕ) → is_out (nodes_at opening h) (out_of h) n ≡ true → exclude_at opening h (by caller (Exclude path)) path ≡ answer.AlreadyExcluded
    exclude_already caller there = rw (found_now, has_as true there) refl

    pub may_exclude : is_out (nodes_at opening h) (out_of h) n ≡ false → (length h + outs) + 2 ≤ 1048576 → MayExclude opening h path n
    may_exclude there small = record { found = found_now; free = has_as false there; room = omega (arith, small, history_is) }

  module _ (caller : ℕ) (path : List ℕ) where
    exclude_history : amount opening (h ++ by caller (Exclude path) ∷ []) History ≡ amount opening h History + 2
    exclude_history = let s = history_snoc opening h (by caller (Exclude path)) in let l = length-append (out_of h) (path ∷ []) in omega (arith, s, l)

    pub exclude_full : (n : ℕ) → find_in nodes path ≡ Some n → is_out (nodes_at opening h) (out_of h) n ≡ false → 1048576 < (length h + outs) + 2 → exclude_at opening h (by caller (Exclude path)) path ≡ answer.Full History (length h + outs) ((length h + outs) + 2)
    exclude_full n found there more =
        let e = by caller (Exclude path) in
        let after = h ++ e ∷ [] in
        let y : amount opening after History ≡ (length h + outs) + 2 = exclude_history ∙ ap (λ n. n + 2) history_is in
        let q = quiet_exclude path in
        let t : is_over opening after Tests ≡ false = le-ltb (most Tests) (amount opening after Tests) (tests_few opening h e q k.within) in
        let b : is_over opening after Bytes ≡ false = le-ltb (most Bytes) (amount opening after Bytes) (bytes_few opening h e q k.within) in
        let s : is_over opening after Entries ≡ false = le-ltb (most Entries) (amount opening after Entries) (entries_few opening h e q k.within) in
        let o : is_over opening after History ≡ true = lt-ltb (most History) (amount opening after History) (omega (arith, y, more)) in
        let p : passed opening after ≡ Some History = rw (t, b, s, o) refl in
        rw (found_now path n found, has_as path n found false there, p) (λ i. answer.Full History (history_is i) (y i))

    module _ (n : ℕ) (m : MayExclude opening h path n) where
      exclude_within : (which : Which) → amount opening (h ++ by caller (Exclude path) ∷ []) which ≤ most which
      exclude_within = quiet_within opening h (by caller (Exclude path)) (quiet_exclude path) k.within (omega (arith, exclude_history, m.room))

      pub exclude_made : exclude_at opening h (by caller (Exclude path)) path ≡ answer.Changed
      exclude_made = rw (m.found, m.free, none_passed opening (h ++ by caller (Exclude path) ∷ []) exclude_within) refl

      pub exclude_keeps : Keeps opening design nodes (h ++ by caller (Exclude path) ∷ []) tests tallies counts (slice_set out n (Some path)) (outs + 1) bytes entries revised
      exclude_keeps =
          let found : find_in nodes path ≡ Some n = ap (λ (ns : List Node). find_in ns path) k.nodes_are ∙ m.found in
          let none : path_at nodes (out_of h) n ≡ None = is_none_of (path_at nodes (out_of h) n) (sym (has_is nodes path n found (out_of h)) ∙ m.free) in
          let fit : suits opening h (Exclude path) ≡ true = rw (m.found, m.free) refl in
          quiet_keeps opening h (by caller (Exclude path)) (quiet_exclude path) k (slice_set out n (Some path)) (outs + 1) fit (exclude_within History)
          (out_more nodes (out_of h) out outs path n k.outs_are found none)

    -- ---- include

    module _ (n : ℕ) (found : find_in nodes path ≡ Some n) where
      pub include_none : slice_index_or out n None ≡ None → include_at opening h path ≡ answer.NotExcluded
      include_none none = rw (found_now path n found, has_flag path n found ∙ ap is_some none) refl

      module _ (q : List ℕ) (some : slice_index_or out n None ≡ Some q) where
        there : has path (out_of h) ≡ true
        there = has_flag path n found ∙ ap is_some some

        pub path_is : q ≡ path
        path_is = path_at_is nodes (out_of h) path q n found (sym (k.outs_are.at n) ∙ some)

        pub include_made : include_at opening h path ≡ answer.Changed
        include_made = rw (found_now path n found, there) refl

        pub outs_one : 1 ≤ outs
        outs_one = omega (arith, outs_less nodes (out_of h) out outs path k.outs_are there)

        pub include_keeps : (fewer : ℕ) → fewer + 1 ≡ outs → Keeps opening design nodes (h ++ by caller (Include path) ∷ []) tests tallies counts (slice_set out n None) fewer bytes entries revised
        include_keeps fewer one =
            let less : length (without path (out_of h)) + 1 ≡ outs = outs_less nodes (out_of h) out outs path k.outs_are there in
            let s = history_snoc opening h (by caller (Include path)) in
            let room : amount opening (h ++ by caller (Include path) ∷ []) History ≤ most History = omega (arith, s, less, k.outs_are.count, k.within History) in
            quiet_keeps opening h (by caller (Include path)) (quiet_include path) k (slice_set out n None) fewer there room
            (out_less nodes (out_of h) out outs fewer path n k.outs_are found there one)

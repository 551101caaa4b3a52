-- How long rows are, and what is appended part by part.
use Rattle.std.proofs.Common.{◌≡◌, ℕ, zero, suc, ◌+◌, ◌*◌, ◌<◌, ◌≤◌, Bool, true, false, List, [], ◌∷◌, ◌++◌, length, take, get_or, refl, ap, append_assoc, arith, length-append}
use Rattle.std.specs.List.{flat_map}
use Rattle.std.specs.Int.{w32, w64, to_be_bytes}
use Rattle.tally.specs.declared.ranked.Ranked.{Ranked}
use Rattle.design_data.specs.declared.infos.BinKind.{BinKind}
use Rattle.design_data.specs.declared.infos.BinKind.TheVariants.{CvgBin, IllegalBin, IgnoreBin, DefaultBin}
use Rattle.ucis_model.specs.declared.answers.CountRow.{CountRow}
use Rattle.ucis_model.specs.declared.answers.HistoryNode.{HistoryNode}
use Rattle.cov_proto.specs.declared.replies.Reply.{Reply}
use Rattle.cov_proto.specs.Frames.{frame}
use Rattle.cov_proto.specs.Spelled.{flag, kind, count_row, rank_row, test_row, body_tag, body_fields, reply_spelled}

length-kind : (k : BinKind) → length (kind k) ≡ 1
length-kind CvgBin = refl
length-kind IllegalBin = refl
length-kind IgnoreBin = refl
length-kind DefaultBin = refl

length-flag : (b : Bool) → length (flag b) ≡ 1
length-flag false = refl
length-flag true = refl

pub size_of_count_row : (r : CountRow) → length (count_row r) ≡ 14
unfolding count_row
size_of_count_row r = omega (arith, length-append (kind r.kind) (flag r.excluded ++ to_be_bytes w64 r.count), length-append (flag r.excluded) (to_be_bytes w64 r.count), length-kind r.kind, length-flag r.excluded)

pub size_of_count_rows : (rows : List CountRow) → length (flat_map count_row rows) ≡ 14 * length rows
size_of_count_rows [] = refl
size_of_count_rows (r ∷ rows) = omega (arith, size_of_count_rows rows, length-append (count_row r) (flat_map count_row rows), size_of_count_row r)

pub size_of_rank_rows : (rows : List Ranked) → length (flat_map rank_row rows) ≡ 12 * length rows
unfolding rank_row
size_of_rank_rows [] = refl
size_of_rank_rows (r ∷ rows) = omega (arith, size_of_rank_rows rows, length-append (rank_row r) (flat_map rank_row rows))

some_test : (r : HistoryNode) → 1 ≤ length (test_row r)
unfolding test_row
some_test r = omega arith

-- There are no more rows than bytes.
pub few_tests : (rows : List HistoryNode) → length rows ≤ length (flat_map test_row rows)
few_tests [] = omega arith
few_tests (r ∷ rows) = omega (arith, few_tests rows, some_test r, length-append (test_row r) (flat_map test_row rows))

-- the first rows and the next one are no longer than all
pub row_fits : {A : Type 0} (f : A → List ℕ) (rows : List A) (i : ℕ) (d : A) → i < length rows → length (flat_map f (take i rows)) + length (f (get_or rows i d)) ≤ length (flat_map f rows)
row_fits f [] i d lt = absurd (omega arith)
row_fits f (r ∷ rows) zero d lt = omega (arith, length-append (f r) (flat_map f rows))
row_fits f (r ∷ rows) (suc i) d lt = omega (arith, row_fits f rows i d (omega arith), length-append (f r) (flat_map f rows), length-append (f r) (flat_map f (take i rows)))

pub seven : (out p q s t d i u a b c e f : List ℕ) → a ≡ out ++ (p ++ q) → b ≡ a ++ (s ++ t) → c ≡ b ++ d → e ≡ c ++ i → f ≡ e ++ u → f ≡ out ++ (p ++ (q ++ (s ++ (t ++ (d ++ (i ++ u))))))
seven out p q s t d i u a b c e f h1 h2 h3 h4 h5 = rw (h5, h4, h3, h2, h1) (simp append_assoc)

-- the parts of a frame one after the other
pub whole_frame : (r : Reply) (n : ℕ) (out a b d : List ℕ) → n ≡ length (body_fields r.body) + 9 → a ≡ out ++ to_be_bytes w32 n → b ≡ a ++ (body_tag r.body ∷ to_be_bytes w64 r.point) → d ≡ b ++ body_fields r.body → d ≡ out ++ frame (reply_spelled r)
unfolding reply_spelled
whole_frame r n out a b d size p q t =
    let long : length (reply_spelled r) ≡ n = omega (arith, length-append (to_be_bytes w64 r.point) (body_fields r.body)) in
    rw (t, q, p, long) (simp append_assoc)

-- where there was room for all rows, there is for the next one
pub room_for : {A : Type 0} (f : A → List ℕ) (rows : List A) (i : ℕ) (row : A) (old new : List ℕ) (long longer low high : ℕ) → row ≡ get_or rows i row → i < length rows → new ≡ old ++ flat_map f (take i rows)
    → long ≡ length old → longer ≡ length new → long + length (flat_map f rows) ≤ low → low ≤ high → longer + length (f row) ≤ high
room_for f rows i row old new long longer low high is lt e o n le rise =
    omega (arith, row_fits f rows i row lt, ap (λ r. length (f r)) is, ap length e, length-append old (flat_map f (take i rows)))

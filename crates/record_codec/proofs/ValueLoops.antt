-- Reading the values of arguments, as a loop does.
use Rattle.std.proofs.Common.{◌≡◌, ℕ, ◌+◌, ◌≤◌, ◌<◌, List, [], ◌∷◌, ◌++◌, length, get_or, drop, Option, Ok, Err, refl, sym, ap, ◌∙◌}
use Rattle.std.proofs.lemmas.List.{append-nil, drop_more, drop_all}
use Rattle.record_codec.specs.declared.fault.Fault.{Fault}
use Rattle.record_codec.specs.declared.fault.Fault.TheVariants.{Short, BadMagic, BadVersion, BadField, TooManyEvents, Trailing, Memory}
use Rattle.record_codec.specs.declared.record.ArgRow.{ArgRow}
use Rattle.record_codec.specs.Reading.{Fails, value_at, values_at}
use Rattle.record_codec.specs.Under.{greatest, value_under}
use Rattle.record_codec.proofs.Readers.{IsBytes}
use Rattle.record_codec.proofs.Loops.{with_front, regroup}
use Rattle.record_codec.proofs.Under.{value_same}

-- what is still read behind what was read before makes the whole
pub record ValuesSoFar (rows : List ArgRow) (bytes : List ℕ) (front : List (Option ℕ)) (rest : List ℕ) (i : ℕ) : Type 0 where
  pub so_far : with_front front (values_at (drop i rows) rest) ≡ values_at rows bytes

pub value_goes_on : {rows : List ArgRow} {bytes : List ℕ} {front : List (Option ℕ)} {rest : List ℕ} {i : ℕ} (d : ArgRow) (x : Option ℕ) (after : List ℕ) → i < length rows → IsBytes rest
    → value_under (greatest (get_or rows i d).width) rest ≡ Ok (x, after) → ValuesSoFar rows bytes front rest i → ValuesSoFar rows bytes (front ++ x ∷ []) after (i + 1)
unfolding values_at
value_goes_on {rows = rows} {front = front} {rest = rest} {i = i} d x after lt fits e before =
    let row = get_or rows i d in
    let here : drop i rows ≡ row ∷ drop (i + 1) rows = drop_more rows i d lt in
    let read : value_at row.width rest ≡ Ok (x, after) = sym (value_same row.width rest fits) ∙ e in
    let one : with_front front (values_at (drop i rows) rest) ≡ with_front (front ++ x ∷ []) (values_at (drop (i + 1) rows) after) = rw (here, read) (regroup front x (values_at (drop (i + 1) rows) after)) in
    record { so_far = sym one ∙ before.so_far }

value_stops : {rows : List ArgRow} {bytes : List ℕ} {front : List (Option ℕ)} {rest : List ℕ} {i : ℕ} (d : ArgRow) (f : Fault) → i < length rows → IsBytes rest
    → value_under (greatest (get_or rows i d).width) rest ≡ Err f → ValuesSoFar rows bytes front rest i → values_at rows bytes ≡ Err f
unfolding values_at
value_stops {rows = rows} {front = front} {rest = rest} {i = i} d f lt fits e before =
    let row = get_or rows i d in
    let here : drop i rows ≡ row ∷ drop (i + 1) rows = drop_more rows i d lt in
    let read : value_at row.width rest ≡ Err f = sym (value_same row.width rest fits) ∙ e in
    let one : with_front front (values_at (drop i rows) rest) ≡ Err f = rw (here, read) refl in
    sym before.so_far ∙ one

pub value_ends : {rows : List ArgRow} {bytes : List ℕ} {front : List (Option ℕ)} {rest : List ℕ} {i : ℕ} (d : ArgRow) (f : Fault) → i < length rows → IsBytes rest
    → Fails f (value_under (greatest (get_or rows i d).width) rest) → ValuesSoFar rows bytes front rest i → Fails f (values_at rows bytes)
value_ends d Memory lt fits h before = tt
value_ends d (Short left) lt fits h before = value_stops d (Short left) lt fits h before
value_ends d BadMagic lt fits h before = value_stops d BadMagic lt fits h before
value_ends d (BadVersion version) lt fits h before = value_stops d (BadVersion version) lt fits h before
value_ends d (BadField left) lt fits h before = value_stops d (BadField left) lt fits h before
value_ends d (TooManyEvents many) lt fits h before = value_stops d (TooManyEvents many) lt fits h before
value_ends d (Trailing left) lt fits h before = value_stops d (Trailing left) lt fits h before

pub values_done : {rows : List ArgRow} {bytes : List ℕ} {front : List (Option ℕ)} {rest : List ℕ} {i : ℕ} → length rows ≤ i → ValuesSoFar rows bytes front rest i → values_at rows bytes ≡ Ok (front, rest)
unfolding values_at
values_done {rows = rows} {front = front} {rest = rest} {i = i} le before =
    let one : with_front front (values_at (drop i rows) rest) ≡ Ok (front, rest) = rw (drop_all i rows le) (ap (λ (xs : List _). Ok (xs, rest)) (append-nil front)) in
    sym before.so_far ∙ one

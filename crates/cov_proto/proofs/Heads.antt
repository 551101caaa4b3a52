-- What a stated length and the bytes behind it are.
use Rattle.std.proofs.Common.{◌≡◌, ◌⊎◌, inr, ℕ, ◌-◌, ◌<◌, ◌≤◌, List, ◌++◌, length, take, drop, sym, ap, ◌∙◌, append_assoc, arith, length-append, length-take}
use Rattle.std.specs.Prelude.{replicate}
use Rattle.std.specs.Int.{w32, to_be_bytes}
use Rattle.std.proofs.lemmas.List.{length-replicate, take-append-drop}
use Rattle.cov_proto.specs.Frames.{IsTorn, HasBadLength, HasFrame}

pub torn : (len : ℕ) (bytes rest : List ℕ) → bytes ≡ to_be_bytes w32 len ++ rest → 0 < len → len ≤ 1048640 → length rest < len → IsTorn bytes
torn len bytes rest e low high less =
    let more = replicate (len - length rest) 0 in
    let filled : length more ≡ len - length rest = length-replicate {A = ℕ} (len - length rest) 0 in
    let long : length (rest ++ more) ≡ len = omega (arith, length-append rest more) in
    inr (record {
      body = rest ++ more;
      more = more;
      is_body = (omega arith, omega arith);
      some = omega arith;
      whole = rw (e, long) (append_assoc (to_be_bytes w32 len) rest more);
    })

pub framed : (len : ℕ) (bytes rest : List ℕ) → bytes ≡ to_be_bytes w32 len ++ rest → 0 < len → len ≤ 1048640 → len ≤ length rest → HasFrame len bytes
framed len bytes rest e low high fits =
    let long : length (take len rest) ≡ len = omega (arith, length-take len rest) in
    record {
      body = take len rest;
      rest = drop len rest;
      is_body = (omega arith, omega arith);
      long = long;
      begins = rw (e, long) (ap (λ l. to_be_bytes w32 len ++ l) (sym (take-append-drop len rest)) ∙ sym (append_assoc (to_be_bytes w32 len) (take len rest) (drop len rest)));
    }

pub bad : (len : ℕ) (bytes rest : List ℕ) → bytes ≡ to_be_bytes w32 len ++ rest → (len ≡ 0) ⊎ (1048640 < len) → HasBadLength len bytes
bad len bytes rest e wrong = record { more = rest; bad = wrong; begins = e }

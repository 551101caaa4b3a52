-- No frame is the front of another.
use Rattle.std.proofs.Common.{◌≡◌, ℕ, ◌^◌, ◌<◌, List, [], ◌++◌, length, take, drop, refl, sym, ap, ◌∙◌, append_assoc, arith, length-append}
use Rattle.std.specs.Int.{w32, to_be_bytes, from_be_bytes}
use Rattle.std.proofs.lemmas.List.{take_at, drop_at, append-nil, nil_from_length}
use Rattle.std.proofs.lemmas.Nat.{from_be_bytes-to_be_bytes_4}
use Rattle.cov_proto.specs.Frames.{frame}

pub no_front : (body other more : List ℕ) → length body < 2 ^ 32 → length other < 2 ^ 32 → frame body ++ more ≡ frame other → (body ≡ other) × (more ≡ [])
no_front body other more short less e =
    let whole : to_be_bytes w32 (length body) ++ (body ++ more) ≡ to_be_bytes w32 (length other) ++ other = sym (append_assoc (to_be_bytes w32 (length body)) body more) ∙ e in
    let heads : to_be_bytes w32 (length body) ≡ to_be_bytes w32 (length other) =
    sym (take_at (to_be_bytes w32 (length body)) (body ++ more) 4 refl) ∙ ap (λ (l : List ℕ). take 4 l) whole ∙ take_at (to_be_bytes w32 (length other)) other 4 refl in
    let bodies : body ++ more ≡ other =
    sym (drop_at (to_be_bytes w32 (length body)) (body ++ more) 4 refl) ∙ ap (λ (l : List ℕ). drop 4 l) whole ∙ drop_at (to_be_bytes w32 (length other)) other 4 refl in
    let long : length body ≡ length other =
    sym (from_be_bytes-to_be_bytes_4 (length body) short) ∙ ap (from_be_bytes w32) heads ∙ from_be_bytes-to_be_bytes_4 (length other) less in
    let nil : more ≡ [] = nil_from_length more (omega (arith, long, ap length bodies, length-append body more)) in
    (sym (append-nil body) ∙ ap (λ (l : List ℕ). body ++ l) (sym nil) ∙ bodies, nil)

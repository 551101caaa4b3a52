-- Files that are read piece by piece.
use Rattle.std.proofs.Common.{◌≡◌, ◌∙◌, refl, ap, sym, ℕ, List, [], ◌++◌, length, length-append, append_assoc, Option, None, Some, arith}
use Rattle.std.specs.Prelude.{Result, Err}
use Rattle.std.specs.Io.KnownBytes.{Consumes}
use Rattle.std.specs.declared.io.Error.{Error}
use Rattle.cov_base.specs.declared.shelf.ShelfRefusal.{ShelfRefusal}
use Rattle.cov_base.specs.declared.shelf.ShelfRefusal.TheVariants as refusal
use Rattle.cov_net.specs.Calls.{Answers, IsInterrupted}
use Rattle.cov_net.specs.Sizes.{IsCauseOf, IsReadRefusal}

consumes_then : (a b c : Option (List ℕ)) (x y : List ℕ) → Consumes a b x → Consumes b c y → Consumes a c (x ++ y)
consumes_then None b c x y h k = tt
consumes_then (Some xs) None c x y h k = absurd h
consumes_then (Some xs) (Some ys) None x y h k = absurd k
consumes_then (Some xs) (Some ys) (Some zs) x y h k = h ∙ (ap (λ (rest : List ℕ). x ++ rest) k ∙ sym (append_assoc x y zs))

consumes_none : (a : Option (List ℕ)) → Consumes a a []
consumes_none None = tt
consumes_none (Some xs) = refl

module _ {F : Type 0} (remaining : F → Option (List ℕ)) (reads : F × List ℕ → Result ℕ Error → F × List ℕ → Type 0) where
  pub read_failed : (file after : F) (room filled : List ℕ) (e : Error) (kept most size : ℕ) (cause : ShelfRefusal) → Answers IsInterrupted reads (file, room) (Err e) (after, filled) → IsCauseOf e cause → IsReadRefusal remaining reads file after kept most size cause
  read_failed file after room filled e kept most size refusal.Failed h t = record {
    bytes = [];
    behind = file;
    after = after;
    room = room;
    filled = filled;
    error = e;
    taken = consumes_none (remaining file);
    failed = h;
    cause = t;
  }
  read_failed file after room filled e kept most size refusal.Missing h t = absurd t
  read_failed file after room filled e kept most size (refusal.TooLong n) h t = absurd t
  read_failed file after room filled e kept most size refusal.Memory h t = tt

  -- a refusal behind bytes that are kept is one of the whole file
  pub grown : (a b c : F) (bytes : List ℕ) (kept most room : ℕ) (cause : ShelfRefusal) → kept ≡ length bytes → Consumes (remaining a) (remaining b) bytes → IsReadRefusal remaining reads b c kept most room cause → IsReadRefusal remaining reads a c 0 most room cause
  grown a b c bytes kept most room refusal.Failed is taken h = record {
    bytes = bytes ++ h.bytes;
    behind = h.behind;
    after = h.after;
    room = h.room;
    filled = h.filled;
    error = h.error;
    taken = consumes_then (remaining a) (remaining b) (remaining h.behind) bytes h.bytes taken h.taken;
    failed = h.failed;
    cause = h.cause;
  }
  grown a b c bytes kept most room refusal.Missing is taken h = h
  grown a b c bytes kept most room (refusal.TooLong size) is taken h = record {
    piece = bytes ++ h.piece;
    taken = consumes_then (remaining a) (remaining b) (remaining c) bytes h.piece taken h.taken;
    seen = omega (arith, is, h.seen, length-append bytes h.piece);
    above = h.above;
    within = h.within;
  }
  grown a b c bytes kept most room refusal.Memory is taken h = tt

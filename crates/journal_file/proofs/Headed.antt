-- The first bytes of a file, as the header of a journal.
use Rattle.std.proofs.Common.{◌≡◌, ◌≢◌, ℕ, ◌≤◌, ◌<◌, List, [], ◌∷◌, ◌++◌, length, get_or, take, drop, refl, sym, ap, ◌∙◌, arith, append_assoc, length-append, take-append-drop, lit≤, Bool, true, false, not, true≢false}
use Rattle.std.specs.Str.{bytes_eq}
use Rattle.std.proofs.lemmas.List.{drop_more, append-nil, take-take, length-take-le}
use Rattle.std.proofs.lemmas.List.Elements.{All-nil}
use Rattle.std.proofs.lemmas.Slice.Eq.{bytes_eq-Decides}
use Rattle.journal_bytes.specs.Items.{IsWritable, letters, header}
use Rattle.cov_disk.specs.Files.{Fills}
use Rattle.journal_file.specs.Stands.{Begins, BeginsNone}

begun : (digest file : List ℕ) (b : Begins digest [] file) → file ≡ letters ++ (digest ++ (b.gate ∷ b.rest))
begun digest file b = b.is ∙ ap (λ (l : List ℕ). l ++ b.gate ∷ b.rest) (append-nil (header digest)) ∙ append_assoc letters digest (b.gate ∷ b.rest)

pub too_short : (file : List ℕ) → length file < 41 → BeginsNone file
too_short file short digest long b = absurd (omega (arith, short, long, ap (λ (l : List ℕ). length l) (begun digest file b), length-append digest (b.gate ∷ b.rest)))

pub no_letters : (file bytes : List ℕ) → bytes ≡ take 41 file → take 8 bytes ≢ letters → BeginsNone file
no_letters file bytes is other digest long b = other (ap (take 8) is ∙ take-take 8 41 file (lit≤ tt) ∙ ap (take 8) (begun digest file b))

pub has_header : (file bytes digest : List ℕ) → bytes ≡ take 41 file → 41 ≤ length file → take 40 bytes ≡ header digest → Begins digest [] file
has_header file bytes digest is long head =
    let front : take 40 file ≡ header digest ++ [] = sym (take-take 40 41 file (lit≤ tt)) ∙ ap (take 40) (sym is) ∙ head ∙ sym (append-nil (header digest)) in
    record {
      writable = All-nil IsWritable;
      gate = get_or file 40 0;
      rest = drop 41 file;
      is = sym (take-append-drop 40 file) ∙ (λ i. front i ++ drop_more file 40 0 (omega (arith, long)) i);
    }

pub header_short : (file bytes : List ℕ) → length bytes ≡ 41 → Fills file 0 false bytes → BeginsNone file
header_short file bytes long short = too_short file (omega (arith, long, short))

pub header_full : (file bytes : List ℕ) → length bytes ≡ 41 → Fills file 0 true bytes → (bytes ≡ take 41 file) × (41 ≤ length file)
header_full file bytes long full = (full.0 ∙ ap (λ (n : ℕ). take n file) long, omega (arith, long, full.1 (omega (arith, long))))

-- by what `!=` says
pub other_bytes : (xs ys : List ℕ) → true ≡ not (bytes_eq xs ys) → xs ≢ ys
other_bytes xs ys test same = true≢false (test ∙ ap not ((bytes_eq-Decides xs ys).1 same))

was_true : (b : Bool) → false ≡ not b → b ≡ true
was_true true test = refl
was_true false test = absurd (true≢false (sym test))

pub same_bytes : (xs ys : List ℕ) → false ≡ not (bytes_eq xs ys) → xs ≡ ys
same_bytes xs ys test = (bytes_eq-Decides xs ys).0 (was_true (bytes_eq xs ys) test)

pub kept_long : (bytes digest : List ℕ) → length bytes ≡ 41 → take 40 bytes ≡ header digest → length digest ≡ 32
kept_long bytes digest long head = omega (arith, ap (λ (l : List ℕ). length l) head, length-take-le 40 bytes (omega (arith, long)))

-- What words say, and their form.
use Rattle.std.proofs.Common.{◌≡◌, ◌∙◌, ap, sym, refl, ℕ, ◌+◌, List, [], ◌∷◌, ◌++◌, Option, Some, None, Bool, true, false, arith, length, length-append, subst, ◌<◌, ◌≤◌}
use Rattle.std.specs.Prelude.{codes, option_map, IfSome, map, string_bytes, String, if◌then◌else◌}
use Rattle.std.proofs.lemmas.List.{length-map}
use Rattle.std.specs.Global.{Global}
use Rattle.std.specs.Str.{bytes_eq}
use Rattle.std.proofs.lemmas.Slice.Eq.{bytes_eq-Decides}
use Rattle.cov_serve.specs.declared.words.ServeWords.{ServeWords}
use Rattle.cov_serve.specs.Seats.{seats_of}
use Rattle.cov_serve.specs.Words.{IsWithin, behind, readers_behind, readers_of, journal_behind, journal_of, placed, seated, flags_behind, listened, designed, served_by}
use Rattle.cov_serve.specs.Forms.{flag_with, words_of, place_of, IsSeats, IsServe}

-- ---- from the form

by_parts : (d a : List ℕ) (s j r : Option (List ℕ)) (n : ℕ) → IsSeats s n
    → served_by (codes "serve" ∷ d ∷ codes "--listen" ∷ a ∷ flag_with (codes "--seats") s ++ (flag_with (codes "--journal") j ++ flag_with (codes "--readers") r)) ≡ Some (placed n (place_of (4 + words_of s) j, place_of (4 + words_of s + words_of j) r))
by_parts d a None None None n is = ap (λ k. Some (placed k (None, None))) (sym is)
by_parts d a None None (Some r) n is = ap (λ k. Some (placed k (None, Some 5))) (sym is)
by_parts d a None (Some j) None n is = ap (λ k. Some (placed k (Some 5, None))) (sym is)
by_parts d a None (Some j) (Some r) n is = ap (λ k. Some (placed k (Some 5, Some 7))) (sym is)
by_parts d a (Some s) None None n is = ap (λ o. seated o []) is
by_parts d a (Some s) None (Some r) n is = ap (λ o. seated o (flag_with (codes "--readers") (Some r))) is
by_parts d a (Some s) (Some j) None n is = ap (λ o. seated o (flag_with (codes "--journal") (Some j))) is
by_parts d a (Some s) (Some j) (Some r) n is = ap (λ o. seated o (flag_with (codes "--journal") (Some j) ++ flag_with (codes "--readers") (Some r))) is

same : (words : List (List ℕ)) (w : ServeWords) (f : IsServe words w) → placed w.seats (place_of (4 + words_of f.seats) f.journal, place_of (4 + words_of f.seats + words_of f.journal) f.readers) ≡ w
same words w f = λ i. record { design = sym f.design_at i; listen = sym f.listen_at i; seats = w.seats; journal = sym f.journal_at i; readers = sym f.readers_at i }

pub by_form : (words : List (List ℕ)) (w : ServeWords) → IsServe words w → served_by words ≡ Some w
by_form words w f = ap served_by f.form ∙ (by_parts f.design f.address f.seats f.journal f.readers w.seats f.number ∙ ap Some (same words w f))

-- ---- to the form

behind_by : (flag first value : List ℕ) (rest : List (List ℕ)) (p : List ℕ × List (List ℕ)) (b : Bool) → bytes_eq first flag ≡ b → (if b then Some (value, rest) else None) ≡ Some p → first ∷ value ∷ rest ≡ flag ∷ p.0 ∷ p.1
behind_by flag first value rest p true is e =
    let same_flag : first ≡ flag = (bytes_eq-Decides first flag).0 is in
    let same_rest : (value, rest) ≡ p = cc in
    λ i. same_flag i ∷ (same_rest i).0 ∷ (same_rest i).1
behind_by flag first value rest p false is e = cc

behind_is : (flag : List ℕ) (words : List (List ℕ)) (p : List ℕ × List (List ℕ)) → behind flag words ≡ Some p → words ≡ flag ∷ p.0 ∷ p.1
behind_is flag [] p e = cc
behind_is flag (first ∷ []) p e = cc
behind_is flag (first ∷ value ∷ rest) p e = behind_by flag first value rest p (bytes_eq first flag) refl e

mapped : {A B : Type 0} (f : A → B) (o : Option A) (y : B) → option_map f o ≡ Some y → (x : A) × (o ≡ Some x) × (f x ≡ y)
mapped f None y e = cc
mapped f (Some x) y e = (x, refl, cc)

-- the readers' flag, and the place of its value
record AtReaders (at : ℕ) (words : List (List ℕ)) (q : Option ℕ) : Type 0 where
  pub readers : Option (List ℕ)
  pub form : words ≡ flag_with (codes "--readers") readers
  pub place : q ≡ place_of at readers

readers_by : (at : ℕ) (words : List (List ℕ)) (q : Option ℕ) (o : Option (List ℕ × List (List ℕ))) → behind (codes "--readers") words ≡ o → readers_behind at o ≡ Some q → AtReaders at words q
readers_by at words q None is e = cc
readers_by at words q (Some (value, [])) is e = record { readers = Some value; form = behind_is (codes "--readers") words (value, []) is; place = cc }
readers_by at words q (Some (value, w ∷ ws)) is e = cc

readers_is : (at : ℕ) (words : List (List ℕ)) (q : Option ℕ) → readers_of at words ≡ Some q → AtReaders at words q
readers_is at [] q e = record { readers = None; form = refl; place = cc }
readers_is at (w ∷ ws) q e = readers_by at (w ∷ ws) q (behind (codes "--readers") (w ∷ ws)) refl e

-- the journal's flag and the readers', and the places of their values
record AtJournal (at : ℕ) (words : List (List ℕ)) (q : Option ℕ × Option ℕ) : Type 0 where
  pub journal : Option (List ℕ)
  pub readers : Option (List ℕ)
  pub form : words ≡ flag_with (codes "--journal") journal ++ flag_with (codes "--readers") readers
  pub journal_at : q.0 ≡ place_of at journal
  pub readers_at : q.1 ≡ place_of (at + words_of journal) readers

journal_by : (at : ℕ) (words : List (List ℕ)) (q : Option ℕ × Option ℕ) (o : Option (List ℕ × List (List ℕ))) → behind (codes "--journal") words ≡ o → journal_behind at words o ≡ Some q → AtJournal at words q
journal_by at words q None is e =
    let m = mapped {A = Option ℕ} (λ readers. (None, readers)) (readers_of at words) q e in
    let r = readers_is at words m.0 m.1 in
    record {
      journal = None;
      readers = r.readers;
      form = r.form;
      journal_at = sym (ap (λ (p : Option ℕ × Option ℕ). p.0) m.2);
      readers_at = sym (ap (λ (p : Option ℕ × Option ℕ). p.1) m.2) ∙ (r.place ∙ ap (λ n. place_of n r.readers) (omega arith));
    }
journal_by at words q (Some p) is e =
    let m = mapped {A = Option ℕ} (λ readers. (Some (at + 1), readers)) (readers_of (at + 2) p.1) q e in
    let r = readers_is (at + 2) p.1 m.0 m.1 in
    record {
      journal = Some p.0;
      readers = r.readers;
      form = behind_is (codes "--journal") words p is ∙ ap (λ rest. codes "--journal" ∷ p.0 ∷ rest) r.form;
      journal_at = sym (ap (λ (p : Option ℕ × Option ℕ). p.0) m.2);
      readers_at = sym (ap (λ (p : Option ℕ × Option ℕ). p.1) m.2) ∙ r.place;
    }

-- all flags
record AtFlags (words : List (List ℕ)) (w : ServeWords) : Type 0 where
  pub seats : Option (List ℕ)
  pub journal : Option (List ℕ)
  pub readers : Option (List ℕ)
  pub form : words ≡ flag_with (codes "--seats") seats ++ (flag_with (codes "--journal") journal ++ flag_with (codes "--readers") readers)
  pub number : IsSeats seats w.seats
  pub placed_so : w ≡ placed w.seats (place_of (4 + words_of seats) journal, place_of (4 + words_of seats + words_of journal) readers)

placed_by : (n : ℕ) (q p : Option ℕ × Option ℕ) (w : ServeWords) → placed n q ≡ w → q ≡ p → w ≡ placed w.seats p
placed_by n q p w is same_places = sym is ∙ (ap (placed n) same_places ∙ ap (λ k. placed k p) (ap (λ (v : ServeWords). v.seats) is))

seated_by : (words rest : List (List ℕ)) (word : List ℕ) (w : ServeWords) (o : Option ℕ) → words ≡ codes "--seats" ∷ word ∷ rest → seats_of word ≡ o → seated o rest ≡ Some w → AtFlags words w
seated_by words rest word w None form is e = cc
seated_by words rest word w (Some n) form is e =
    let m = mapped (placed n) (journal_of 6 rest) w e in
    let j = journal_by 6 rest m.0 (behind (codes "--journal") rest) refl m.1 in
    record {
      seats = Some word;
      journal = j.journal;
      readers = j.readers;
      form = form ∙ ap (λ rest. codes "--seats" ∷ word ∷ rest) j.form;
      number = is ∙ ap Some (ap (λ (v : ServeWords). v.seats) m.2);
      placed_so = placed_by n m.0 (place_of 6 j.journal, place_of (6 + words_of j.journal) j.readers) w m.2 (λ i. (j.journal_at i, j.readers_at i));
    }

flags_by : (words : List (List ℕ)) (w : ServeWords) (o : Option (List ℕ × List (List ℕ))) → behind (codes "--seats") words ≡ o → flags_behind words o ≡ Some w → AtFlags words w
flags_by words w None is e =
    let m = mapped (placed 16) (journal_of 4 words) w e in
    let j = journal_by 4 words m.0 (behind (codes "--journal") words) refl m.1 in
    record {
      seats = None;
      journal = j.journal;
      readers = j.readers;
      form = j.form;
      number = sym (ap (λ (v : ServeWords). v.seats) m.2);
      placed_so = placed_by 16 m.0 (place_of 4 j.journal, place_of (4 + words_of j.journal) j.readers) w m.2 (λ i. (j.journal_at i, j.readers_at i));
    }
flags_by words w (Some p) is e = seated_by words p.1 p.0 w (seats_of p.0) (behind_is (codes "--seats") words p is) refl e

listened_by : (words rest : List (List ℕ)) (design : List ℕ) (w : ServeWords) (o : Option (List ℕ × List (List ℕ))) → words ≡ codes "serve" ∷ design ∷ rest → behind (codes "--listen") rest ≡ o → listened o ≡ Some w → IsServe words w
listened_by words rest design w None form is e = cc
listened_by words rest design w (Some p) form is e =
    let f = flags_by p.1 w (behind (codes "--seats") p.1) refl e in
    record {
      design = design;
      address = p.0;
      seats = f.seats;
      journal = f.journal;
      readers = f.readers;
      form = form ∙ (ap (λ rest. codes "serve" ∷ design ∷ rest) (behind_is (codes "--listen") rest p is) ∙ ap (λ rest. codes "serve" ∷ design ∷ codes "--listen" ∷ p.0 ∷ rest) f.form);
      design_at = ap (λ (v : ServeWords). v.design) f.placed_so;
      listen_at = ap (λ (v : ServeWords). v.listen) f.placed_so;
      number = f.number;
      journal_at = ap (λ (v : ServeWords). v.journal) f.placed_so;
      readers_at = ap (λ (v : ServeWords). v.readers) f.placed_so;
    }

designed_by : (words : List (List ℕ)) (w : ServeWords) (o : Option (List ℕ × List (List ℕ))) → behind (codes "serve") words ≡ o → designed o ≡ Some w → IsServe words w
designed_by words w None is e = cc
designed_by words w (Some p) is e = listened_by words p.1 p.0 w (behind (codes "--listen") p.1) (behind_is (codes "serve") words p is) refl e

pub to_form : (words : List (List ℕ)) (w : ServeWords) → served_by words ≡ Some w → IsServe words w
to_form words w e = designed_by words w (behind (codes "serve") words) refl e

-- ---- places within the words

flag_long : (flag : List ℕ) (o : Option (List ℕ)) → length (flag_with flag o) ≡ words_of o
flag_long flag None = refl
flag_long flag (Some value) = refl

form_long : (words : List (List ℕ)) (w : ServeWords) (f : IsServe words w) → length words ≡ 4 + words_of f.seats + words_of f.journal + words_of f.readers
form_long words w f =
    let s = flag_with (codes "--seats") f.seats in
    let j = flag_with (codes "--journal") f.journal in
    let r = flag_with (codes "--readers") f.readers in
    let whole : length words ≡ 4 + length (s ++ (j ++ r)) = ap length f.form ∙ omega arith in
    omega (arith, whole, length-append s (j ++ r), length-append j r, flag_long (codes "--seats") f.seats, flag_long (codes "--journal") f.journal, flag_long (codes "--readers") f.readers)

place_low : (at n : ℕ) (o : Option (List ℕ)) → at + words_of o ≤ n → IfSome (place_of at o) (λ p. p < n)
place_low at n None low = tt
place_low at n (Some value) low = omega arith

pub within : (words : List (List ℕ)) (w : ServeWords) → served_by words ≡ Some w → IsWithin (length words) w
within words w e =
    let f = to_form words w e in
    let long = form_long words w f in
    record {
      design = omega (arith, long, f.design_at);
      listen = omega (arith, long, f.listen_at);
      journal = subst (λ (o : Option ℕ). IfSome o (λ p. p < length words)) (sym f.journal_at) (place_low (4 + words_of f.seats) (length words) f.journal (omega (arith, long)));
      readers = subst (λ (o : Option ℕ). IfSome o (λ p. p < length words)) (sym f.readers_at) (place_low (4 + words_of f.seats + words_of f.journal) (length words) f.readers (omega (arith, long)));
    }

pub all_within : (words : List (String Global)) (o : Option ServeWords) → o ≡ served_by (map string_bytes words) → IfSome o (IsWithin (length words))
all_within words None e = tt
all_within words (Some w) e = subst (λ n. IsWithin n w) (length-map words string_bytes) (within (map string_bytes words) w (sym e))

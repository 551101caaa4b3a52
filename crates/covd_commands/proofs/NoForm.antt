-- Words that are no form.
use Rattle.std.proofs.Common.{◌≡◌, ℕ, List, [], ◌∷◌, Option, Some, None, sym, ap, ◌∙◌}
use Rattle.std.specs.Prelude.{codes}
use Rattle.covd_commands.specs.Options.{Options, no_options, options_from}
use Rattle.covd_commands.specs.Digits.{written, bounded}
use Rattle.covd_commands.specs.Forms.{Asks, NoneAsked, IsNoReport, IsNoExport, IsNoMake}

pub no_report : (words : List (List ℕ)) → NoneAsked (codes "report") words → IsNoReport words
no_report words none options design names m = none options design names m.asks

pub no_export : (words : List (List ℕ)) → NoneAsked (codes "export") words → IsNoExport words
no_export words none options form design names m = none options m.word (design ∷ names) m.asks

pub no_making : (words : List (List ℕ)) → NoneAsked (codes "make") words → IsNoMake words
no_making words none options design s r t m = none options design (m.seed_word ∷ m.rounds_word ∷ m.tests_word ∷ []) m.asks

-- the pair of what is found, where something is
abbrev found_in : Option (Options × List (List ℕ)) → Options × List (List ℕ)
found_in None = (no_options, [])
found_in (Some pair) = pair

abbrev tail_of : List (List ℕ) → List (List ℕ)
tail_of [] = []
tail_of (word ∷ words) = words

-- words ask for one thing
pub asked_once : (command : List ℕ) (words : List (List ℕ)) (a b : Options) (x y : List (List ℕ)) → Asks command words a x → Asks command words b y → (a ≡ b) × (x ≡ y)
asked_once command words a b x y m n =
    let same : m.behind ≡ n.behind = ap tail_of (sym m.are ∙ n.are) in
    let both : ◌≡◌ {A = Options × List (List ℕ)} (a, x) (b, y) = ap found_in (sym m.read ∙ (ap (λ (w : List (List ℕ)). options_from None no_options w) same ∙ n.read)) in
    (ap (λ (p : Options × List (List ℕ)). p.0) both, ap (λ (p : Options × List (List ℕ)). p.1) both)

-- no three numbers are written in these words
abbrev pub NoNumbers : (a b c : List ℕ) → Type 0
NoNumbers a b c = (s r t : ℕ) → written 20 a ≡ Some s → bounded 0 1048576 (written 7 b) ≡ Some r → bounded 1 4096 (written 4 c) ≡ Some t → ⊥

pub no_make : (words rest : List (List ℕ)) (given : Options) (design a b c : List ℕ) → Asks (codes "make") words given (design ∷ rest) → rest ≡ a ∷ b ∷ c ∷ [] → NoNumbers a b c → IsNoMake words
no_make words rest given design a b c asks f none options other s r t m =
    let same = (asked_once (codes "make") words options given _ _ m.asks asks).1 in
    let one : m.seed_word ≡ a = cc (same, f) in
    let two : m.rounds_word ≡ b = cc (same, f) in
    let three : m.tests_word ≡ c = cc (same, f) in
    none s r t (ap (written 20) (sym one) ∙ m.seed_is) (ap (λ (word : List ℕ). bounded 0 1048576 (written 7 word)) (sym two) ∙ m.rounds_are) (ap (λ (word : List ℕ). bounded 1 4096 (written 4 word)) (sym three) ∙ m.tests_are)

-- Events that are pushed step by step.
use Rattle.std.proofs.Common.{◌≡◌, List, [], ◌++◌, refl, sym, ap, subst, ◌∙◌, append_assoc}
use Rattle.std.proofs.lemmas.List.{append-nil}
use Rattle.record_codec.specs.declared.record.Event.{Event}
use Rattle.record_codec.specs.declared.builder.RecordBuilder.{RecordBuilder}
use Rattle.record_codec.specs.Builders.{HasPushed}
use Rattle.record_maker.specs.Pushing.{Pushed}

pub nothing_pushed : (b : RecordBuilder) → Pushed b b []
nothing_pushed b = record { pushed = λ start events h. subst (λ (es : List Event). HasPushed b start es) (sym (append-nil events)) h }

pub pushed_more : {a b c : RecordBuilder} {xs ys : List Event} → Pushed a b xs → Pushed b c ys → Pushed a c (xs ++ ys)
pushed_more {c = c} {xs = xs} {ys = ys} p q = record { pushed = λ start events h. subst (λ (es : List Event). HasPushed c start es) (append_assoc events xs ys) (q.pushed start (events ++ xs) (p.pushed start events h)) }

-- what was pushed, and what is left, make all of it
pub record SoFar (before now : RecordBuilder) (left all : List Event) : Type 0 where
  pub done : List Event
  pub pushed : Pushed before now done
  pub whole : done ++ left ≡ all

pub begins : (b : RecordBuilder) (all : List Event) → SoFar b b all all
begins b all = record { done = []; pushed = nothing_pushed b; whole = refl }

pub goes_on : {before now then : RecordBuilder} {left all : List Event} (made more : List Event) → SoFar before now left all → left ≡ made ++ more → Pushed now then made → SoFar before then more all
goes_on made more l is p = record { done = l.done ++ made; pushed = pushed_more l.pushed p; whole = append_assoc l.done made more ∙ (ap (λ (es : List Event). l.done ++ es) (sym is) ∙ l.whole) }

pub is_done : {before now : RecordBuilder} {left all : List Event} → SoFar before now left all → left ≡ [] → Pushed before now all
is_done {before = before} {now = now} l is = subst (λ (es : List Event). Pushed before now es) (sym (append-nil l.done) ∙ (ap (λ (es : List Event). l.done ++ es) (sym is) ∙ l.whole)) l.pushed

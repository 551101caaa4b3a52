-- What is made ready for a history is right for it, and stays right as the history grows.
use Rattle.std.proofs.Common.{◌≡◌, inl, inr, ℕ, ◌≤◌, List, ◌++◌, length, take, true, sym, ap, ◌∙◌, subst, arith, length-append}
use Rattle.std.proofs.lemmas.List.{take-append-le, take_all}
use Rattle.design_data.specs.declared.design.Design.{Design}
use Rattle.record_codec.specs.declared.record.Record.{Record}
use Rattle.sampler.specs.Preparing.{Whole}
use Rattle.ucis_model.specs.declared.answers.Answer.{Answer}
use Rattle.cov_compile.specs.Texts.{Declared}
use Rattle.cov_history.specs.declared.entry.Entry.{Entry}
use Rattle.cov_history.specs.declared.asks.Ask.{Ask as At}
use Rattle.cov_history.specs.Tables.{fits, same_tables}
use Rattle.cov_history.specs.History.{design_of, contents}
use Rattle.cov_history.specs.Answers.{made, Serves}
use Rattle.store_core.specs.declared.asks.Ask.{Ask}
use Rattle.store_core.specs.declared.asks.Ask.TheVariants as ask
use Rattle.store_core.specs.declared.basis.Basis.{Basis}
use Rattle.store_core.specs.Rebins.{Redone}
use Rattle.store_core.specs.Bases.{IsBasis, IsRebinned}
use Rattle.store_core.specs.Asks.{Meets, IsPrepared, IsReadied}

-- ---- what is made ready

whole : (h : List Entry) (n : ℕ) → n ≡ length h → take n h ≡ h
whole h n e = take_all n h (omega (arith, e))

pub prepared_now : (opening : Design) (h : List Entry) (since : ℕ) (d : Design) (r : Record) (p : Whole)
    → since ≡ length h → d ≡ design_of opening h → fits d r ≡ true → p.under ≡ d → p.of ≡ r → IsPrepared opening h since p
prepared_now opening h since d r p s is fit under of = record {
  reached = omega (arith, s);
  under = under ∙ is ∙ ap (design_of opening) (sym (whole h since s));
  fit = (λ i. fits (under i) (of i)) ∙ fit;
}

pub readied_now : (opening : Design) (h : List Entry) (c : Declared) (b : Basis) (r : Redone)
    → same_tables c.design opening ≡ true → IsBasis opening h b → IsRebinned c b r → IsReadied opening h r
readied_now opening h c b r tables basis is = record {
  reached = omega (arith, is.since, basis.point);
  tables = ap (λ d. same_tables d opening) is.design ∙ tables;
  records = is.records ∙ basis.records ∙ ap contents (sym (whole h r.since (is.since ∙ basis.point)));
  declared = is.declared;
}

-- ---- as the history grows

front_same : (h more : List Entry) (n : ℕ) → n ≤ length h → take n (h ++ more) ≡ take n h
front_same h more n le = take-append-le n h more le

meets_more : (opening : Design) (h more : List Entry) (a : Ask) → Meets opening h a → Meets opening (h ++ more) a
meets_more opening h more (ask.Admit since p) m = record {
  reached = omega (arith, length-append h more, m.reached);
  under = m.under ∙ ap (design_of opening) (sym (front_same h more since m.reached));
  fit = m.fit;
}
meets_more opening h more (ask.Revise r) m = record {
  reached = omega (arith, length-append h more, m.reached);
  tables = m.tables;
  records = m.records ∙ ap contents (sym (front_same h more r.since m.reached));
  declared = m.declared;
}
meets_more opening h more other m = m

-- what is ready for a history is ready for the one after an ask
pub ready_still : (opening opening' : Design) (h h' : List Entry) (caller : ℕ) (a : At) (given : Answer) (later : Ask)
    → opening' ≡ opening → Serves opening caller h a given h' → Meets opening h later → Meets opening' h' later
ready_still opening opening' h h' caller a given later o (inl s) m = subst (λ d. Meets d h' later) (sym o) (subst (λ l. Meets opening l later) (sym s.1) (meets_more opening h (made caller a given) later m))
ready_still opening opening' h h' caller a given later o (inr s) m = subst (λ d. Meets d h' later) (sym o) (subst (λ l. Meets opening l later) (sym s.1) m)

-- The answers to changes, from what was worked out for them.
use Rattle.std.proofs.Common.{◌≡◌, ◌∙◌, ℕ, Bool, true, false, List, sym, ap, Option, Some, None}
use Rattle.std.specs.Prelude.{if◌then◌else◌, find, bytes_eq}
use Rattle.sha2.specs.Sha256.{sha256}
use Rattle.design_data.specs.declared.design.Design.{Design}
use Rattle.record_codec.specs.declared.record.Record.{Record}
use Rattle.record_codec.specs.Spelling.{spelling}
use Rattle.ucis_model.specs.declared.node.Node.{Node}
use Rattle.ucis_model.specs.declared.answers.Answer.{Answer}
use Rattle.ucis_model.specs.declared.answers.Answer.TheVariants as answers
use Rattle.ucis_model.specs.Nodes.{nodes_of}
use Rattle.ucis_model.specs.Paths.{find_in}
use Rattle.cov_history.specs.declared.entry.Entry.{Entry}
use Rattle.cov_history.specs.History.{Test, design_of, out_of, has, is_revise, is_test_or_revise}
use Rattle.cov_history.specs.Answers.{admit_by, admit_at, exclude_at, include_at, revise_at, change, stands_since}
use Rattle.history_answers.specs.declared.keeping.Kept.{Kept}
use Rattle.history_answers.specs.Kept.{kept_from}
use Rattle.history_answers.proofs.Asked.{some_kept, none_kept, some_found}

-- ---- admission

pub known_is : (opening d : Design) (h : List Entry) (since : ℕ) (e : Entry) (r : Record) (k : Kept) (bytes : List ℕ) (answer : Answer) → find (λ (x : Kept). bytes_eq r.id x.row.id) (kept_from d 0 h) ≡ Some k → bytes ≡ spelling r
    → answer ≡ (if bytes_eq k.bytes bytes then answers.Here k.row.point else answers.IdTaken k.row.digest) → answer ≡ admit_at opening h since e r
known_is opening d h since e r k bytes answer f b is =
    let s = some_kept d h r.id k f in
    let t = s.0 in
    is
    ∙ ap (λ (x : Kept). if bytes_eq x.bytes bytes then answers.Here x.row.point else answers.IdTaken x.row.digest) (sym s.2)
    ∙ ap (λ (bs : List ℕ). if bytes_eq (spelling t.content) bs then answers.Here t.point else answers.IdTaken (sha256 (spelling t.content))) b
    ∙ sym (ap (λ (o : Option Test). admit_by opening h since e r o) s.1)

module _ (opening d : Design) (h : List Entry) (since : ℕ) (e : Entry) (r : Record) (none : find (λ (x : Kept). bytes_eq r.id x.row.id) (kept_from d 0 h) ≡ None) where
  unless_moved : (if stands_since is_revise h since then answers.Moved since else change opening h e answers.New) ≡ admit_at opening h since e r
  unless_moved = sym (ap (λ (o : Option Test). admit_by opening h since e r o) (none_kept d h r.id none))

  pub moved_is : stands_since is_revise h since ≡ true → answers.Moved since ≡ admit_at opening h since e r
  moved_is m = sym (ap (λ (b : Bool). if b then answers.Moved since else change opening h e answers.New) m) ∙ unless_moved

  pub new_is : (answer : Answer) → stands_since is_revise h since ≡ false → answer ≡ change opening h e answers.New → answer ≡ admit_at opening h since e r
  new_is answer m is = is ∙ sym (ap (λ (b : Bool). if b then answers.Moved since else change opening h e answers.New) m) ∙ unless_moved

-- ---- exclusions

module _ (opening d : Design) (h : List Entry) (nodes : List Node) (path : List ℕ) (place : ℕ) (is : d ≡ design_of opening h) (n : nodes ≡ nodes_of d) (f : find_in nodes path ≡ Some place) where
  pub already_is : (e : Entry) → has path (out_of h) ≡ true → answers.AlreadyExcluded ≡ exclude_at opening h e path
  already_is e out =
      sym (ap (λ (b : Bool). if b then answers.AlreadyExcluded else change opening h e answers.Changed) out)
      ∙ some_found opening d h nodes is n path place (λ m. if has path (out_of h) then answers.AlreadyExcluded else change opening h e answers.Changed) f

  pub excluded_is : (e : Entry) (answer : Answer) → has path (out_of h) ≡ false → answer ≡ change opening h e answers.Changed → answer ≡ exclude_at opening h e path
  excluded_is e answer out made =
      made
      ∙ sym (ap (λ (b : Bool). if b then answers.AlreadyExcluded else change opening h e answers.Changed) out)
      ∙ some_found opening d h nodes is n path place (λ m. if has path (out_of h) then answers.AlreadyExcluded else change opening h e answers.Changed) f

  pub included_is : (b : Bool) → has path (out_of h) ≡ b → (if b then answers.Changed else answers.NotExcluded) ≡ include_at opening h path
  included_is b out =
      sym (ap (λ (x : Bool). if x then answers.Changed else answers.NotExcluded) out)
      ∙ some_found opening d h nodes is n path place (λ m. if has path (out_of h) then answers.Changed else answers.NotExcluded) f

-- ---- revision

pub revision_moved : (opening : Design) (h : List Entry) (since : ℕ) (e : Entry) → stands_since is_test_or_revise h since ≡ true → answers.Moved since ≡ revise_at opening h since e
revision_moved opening h since e m = sym (ap (λ (b : Bool). if b then answers.Moved since else change opening h e answers.Changed) m)

pub revision_is : (opening : Design) (h : List Entry) (since : ℕ) (e : Entry) (answer : Answer) → stands_since is_test_or_revise h since ≡ false → answer ≡ change opening h e answers.Changed → answer ≡ revise_at opening h since e
revision_is opening h since e answer m is = is ∙ sym (ap (λ (b : Bool). if b then answers.Moved since else change opening h e answers.Changed) m)

use Rattle.std.proofs.Common.{◌≡◌, ◌∙◌, ap, sym, length, map, List, arith}
use Rattle.std.specs.Arc.{arc_value}
use Rattle.std.specs.declared.sync.Arc.{Arc}
use Rattle.std.specs.declared.alloc.Global.{Global}
use Rattle.std.proofs.lemmas.List.{length-map}
use Rattle.record_codec.specs.declared.record.Record.{Record}
use Rattle.ucis_model.specs.declared.answers.Which.TheVariants.{Tests}
use Rattle.cov_history.specs.History.{Test, tests_of, contents}
use Rattle.merge_store.specs.Stores.{entries_of}
use Rattle.merge_store.proofs.store.Store.basis.Goals as goal

pub returns : goal.returns
returns c =
    let s = c.args.self.now in
    let h = entries_of s in
    let view : Arc Record Global → Record = λ (x : Arc Record Global). arc_value x in
    let listed : map view c.of.result ≡ contents h = ap (map view) c.of.ensures ∙ c.in_ok-records.ensures in
    let many : length c.of.result ≡ length (tests_of h) = sym (length-map c.of.result view) ∙ ap (λ (rs : List Record). length rs) listed ∙ length-map (tests_of h) (λ (t : Test). t.content) in
    let most = s.keeps.within Tests in
    record {
      point = c.point.ensures;
      design = c.in_ok-design.ensures ∙ s.keeps.design_is;
      records = listed;
      few = omega (arith, many, most);
    }

use Rattle.std.proofs.Common.{◌∙◌, sym, ap}
use Rattle.sha2.specs.Sha256.{sha256}
use Rattle.record_codec.specs.declared.record.Record.{Record}
use Rattle.sampler.proofs.OneRecord.{is_record}
use Rattle.sampler.proofs.encoded.EncodedRecord.of.Goals as goal

pub invariant_of-result : goal.invariant_of-result
invariant_of-result c = (record { of = c.args.rec; is = record { spelled = c.shrink_to_fit.ensures.items ∙ c.in_ok-bytes.ensures.spelled } }, tt)

pub invariant_of-result-2 : goal.invariant_of-result-2
invariant_of-result-2 c =
    let is = is_record _ c.args.rec (c.shrink_to_fit.ensures.items ∙ c.in_ok-bytes.ensures.spelled) in (
      c.digest-digest.ensures ∙ ap sha256 c.as_slice.ensures.value,
      ap (λ (x : Record). x.id) is,
      ap (λ (x : Record). x.status) is,
      ap (λ (x : Record). x.seed) is,
      ap (λ (x : Record). x.time) is,
      ap (λ (x : Record). x.user) is,
    )

pub returns : goal.returns
returns c = sym (is_record _ c.args.rec (c.shrink_to_fit.ensures.items ∙ c.in_ok-bytes.ensures.spelled))

use Rattle.std.proofs.Common.{◌∙◌, ap, List}
use Rattle.design_data.specs.declared.infos.BinInfo.{BinInfo}
use Rattle.point_tables.specs.Tables.{machines_from, places_from}
use Rattle.point_sampler.specs.Plans.{is_default_sequence}
use Rattle.point_sampler.proofs.Ordering.{divided_moved}
use Rattle.point_sampler.proofs.planning.transitions_of.Goals as goal

pub returns-clause-machines : goal.returns-clause-machines
returns-clause-machines c = divided_moved c.in_ok-removers.removers (machines_from 0 c.args.item.now.bins) c.in_ok-divided.divided.machines.items c.in_ok-divided.divided.rows.items c.in_ok-words.words c.in_ok-words.ensures c.in_ok-divided.ensures.are

pub returns-clause-entrances : goal.returns-clause-entrances
returns-clause-entrances c = c.in_ok-divided.ensures.entrances

pub returns-clause-sequences : goal.returns-clause-sequences
returns-clause-sequences c = c.in_ok-sequences.ensures ∙ ap (λ (bins : List BinInfo). places_from (λ bin. is_default_sequence bin.rule) 0 bins) c.as_slice.ensures

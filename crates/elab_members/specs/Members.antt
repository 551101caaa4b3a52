-- The members of a group at one of its instances, in order (IEEE 1800-2017, 19.3).
use Rattle.std.specs.Prelude.{List, [], length, Result, Ok}
use Rattle.name_map.specs.Names.{Pairs}
use Rattle.cov_tree.specs.declared.groups.Member.{Member}
use Rattle.cov_tree.specs.declared.groups.Member.TheVariants as members
use Rattle.cov_options.specs.declared.options.Options.{Options}
use Rattle.elab_base.specs.declared.names.What.{What}
use Rattle.elab_base.specs.Gives.{Refusal, each}
use Rattle.elab_decls.specs.declared.outside.Outside.{Outside}
use Rattle.elab_crosses.specs.Axes.{points_named}
use Rattle.elab_members.specs.declared.counts.Counts.{Counts}
use Rattle.elab_members.specs.declared.items.Items.{Items}
use Rattle.elab_members.specs.declared.items.Inside.{Inside}
use Rattle.elab_members.specs.Intersections.{intersected_in}
use Rattle.elab_members.specs.Items.{no_items}
use Rattle.elab_members.specs.Points.{point_name, named_point}
use Rattle.elab_members.specs.Crosses.{cross}

-- what the members of an instance have in common, behind formals and sample arguments of these names
abbrev pub inside_in : Pairs What → Options → List Member → Inside
inside_in names options ms = record { names = names; options = options; intersected = intersected_in ms; points = points_named [] ms }

-- a member that is an item; the options of the group are set before
abbrev pub member : Outside → Inside → Member → Items → Result Items Refusal
member outside inside (members.Point p) s = named_point outside inside (point_name p (length s.items)) p s
member outside inside (members.Opt o) s = Ok s
member outside inside (members.Cross c) s = cross outside inside c s

unfoldable pub members_walked : Outside → Inside → Counts → List Member → Result Items Refusal
members_walked outside inside counts ms = each (member outside inside) ms (no_items counts)

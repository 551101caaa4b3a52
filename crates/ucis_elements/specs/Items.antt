-- Options, and the first parts of points, crosses and instances, as elements of the interchange format.
use Rattle.std.specs.Prelude.{ℕ, List, [], ◌∷◌, codes, Bool, slice_get, Option, Some, None}
use Rattle.design_data.specs.declared.infos.Signal.{Signal}
use Rattle.design_data.specs.declared.infos.ItemInfo.{ItemInfo}
use Rattle.design_data.specs.declared.infos.ItemShape.{ItemShape}
use Rattle.design_data.specs.declared.infos.ItemShape.TheVariants.{Point, Cross}
use Rattle.design_data.specs.declared.infos.InstInfo.{InstInfo}
use Rattle.design_data.specs.declared.infos.Remarks.{Remarks}
use Rattle.expr_text.specs.Expressions.{expr_text}
use Rattle.markup.specs.Trees.{Markup, Both, Break, Element, Empty, Text, Attribute, attribute, number, truth, each, line}
use Rattle.ucis_elements.specs.Words.{named, source_id}

-- ---- options (IEEE 1800-2017, 19.7)

abbrev pub options : List Attribute → Markup
options attributes = line (Empty (codes "options") attributes)

-- what points, crosses and instances have in common
abbrev pub common_options : (weight goal at_least : ℕ) → (comment : List ℕ) → List Attribute → List Attribute
common_options weight goal at_least comment more = number (codes "weight") weight ∷ number (codes "goal") goal ∷ attribute (codes "comment") comment ∷ number (codes "at_least") at_least ∷ more

unfoldable pub point_options : ItemInfo → Markup
point_options item = options (common_options item.weight item.goal item.at_least item.remarks.comment
    (truth (codes "detect_overlap") item.remarks.detect_overlap ∷ number (codes "auto_bin_max") item.remarks.auto_bin_max ∷ []))

unfoldable pub cross_options : ItemInfo → Markup
cross_options item = options (common_options item.weight item.goal item.at_least item.remarks.comment
    (number (codes "cross_num_print_missing") item.remarks.cross_num_print_missing ∷ []))

-- what an instance has for the bins of its items
abbrev pub instance_defaults : Remarks → List Attribute → List Attribute
instance_defaults remarks more = truth (codes "detect_overlap") remarks.detect_overlap ∷ number (codes "auto_bin_max") remarks.auto_bin_max ∷ number (codes "cross_num_print_missing") remarks.cross_num_print_missing ∷ more

-- how it is told, with `type_option.merge_instances` of its group
abbrev pub instance_telling : (merge : Bool) → InstInfo → List Attribute
instance_telling merge inst = truth (codes "per_instance") inst.print ∷ truth (codes "merge_instances") merge ∷ []

unfoldable pub instance_options : (merge : Bool) → InstInfo → Markup
instance_options merge inst = options (common_options inst.weight inst.goal inst.at_least inst.remarks.comment (instance_defaults inst.remarks (instance_telling merge inst)))

-- ---- elements with lines of their own in them

-- What a point samples, as text of SystemVerilog; a cross samples nothing of its own. The names are those of the design's
-- signals and of the arguments of the instance's sample function.
abbrev pub shape_attributes : (signals arguments : List Signal) → ItemShape → List Attribute
shape_attributes signals arguments (Point expr) = attribute (codes "exprString") (expr_text signals arguments expr) ∷ []
shape_attributes signals arguments (Cross axes) = []

abbrev pub point_attributes : (signals arguments : List Signal) → (key : ℕ) → (excluded : Bool) → ItemInfo → List Attribute
point_attributes signals arguments key excluded item = named item.name key excluded (shape_attributes signals arguments item.shape)

-- what stands in a coverpoint before its bins
abbrev pub point_head : ItemInfo → Markup
point_head item = Both Break (point_options item)

-- a coverpoint with its bins (19.5)
abbrev pub point_with : (signals arguments : List Signal) → (key : ℕ) → (excluded : Bool) → ItemInfo → (bins : Markup) → Markup
point_with signals arguments key excluded item bins =
    line (Element (codes "coverpoint") (point_attributes signals arguments key excluded item) (Both (point_head item) bins))

-- the name of a crossed point
abbrev pub name_of : Option ItemInfo → List ℕ
name_of None = []
name_of (Some item) = item.name

abbrev pub expr_element : List ItemInfo → (axis : ℕ) → Markup
expr_element items axis = line (Element (codes "crossExpr") [] (Text (name_of (slice_get items axis))))

-- what a cross of these points of an instance begins with
abbrev pub cross_head : (items : List ItemInfo) → (axes : List ℕ) → ItemInfo → Markup
cross_head items axes item = Both Break (Both (cross_options item) (each (expr_element items) axes))

-- a cross of these points of an instance, with its bins (19.6)
abbrev pub cross_with : (items : List ItemInfo) → (axes : List ℕ) → (key : ℕ) → (excluded : Bool) → ItemInfo → (bins : Markup) → Markup
cross_with items axes key excluded item bins = line (Element (codes "cross") (named item.name key excluded []) (Both (cross_head items axes item) bins))

-- of which type an instance is
unfoldable pub group_id : (group : List ℕ) → Markup
group_id group = line (Element (codes "cgId") (attribute (codes "cgName") group ∷ attribute (codes "moduleName") (codes "design") ∷ []) (Both (source_id (codes "cginstSourceId")) (source_id (codes "cgSourceId"))))

-- what an instance of a group begins with
abbrev pub instance_head : (group : List ℕ) → (merge : Bool) → InstInfo → Markup
instance_head group merge inst = Both Break (Both (instance_options merge inst) (group_id group))

-- an instance of a group, with its points and crosses (19.3)
abbrev pub instance_with : (group : List ℕ) → (merge : Bool) → (key : ℕ) → (excluded : Bool) → InstInfo → (items : Markup) → Markup
instance_with group merge key excluded inst items = line (Element (codes "cgInstance") (named inst.name key excluded []) (Both (instance_head group merge inst) items))

-- Meaning: Attributes before an item, a port or a statement. IEEE 1364-2005, section 3.8.
use Rattle.std.specs.Prelude.{List}
use Rattle.vl_tree.specs.declared.attribute.AttributeInstance.{AttributeInstance}
use Rattle.vl_tree.specs.contracts.attribute.AttributeInstance as instance
use Rattle.std.specs.Coded.{Coded, coded_list}

abbrev pub Attributes : Type 0
Attributes = List AttributeInstance

abbrev pub attributes_code : Coded Attributes
attributes_code = coded_list instance.the_row.coded

-- One name that unfolds every definition of the readings, for an answer that computes: `unfolding computed`.
use Rattle.lists.specs.Bytes.{sameb}
use Rattle.reference.proofs.All as reference
use Rattle.table.specs.Row.{rows_of, tok_as}
use Rattle.table.specs.Rules.{last_lt}
use Rattle.table.specs.Piece.{closing, is_closed}
use Rattle.table.specs.Test.{dec_table}
use Rattle.xml.specs.Drain as xml
use Rattle.table.specs.Names.{before_colon, name_matches}
use Rattle.document.specs.View.{error_at, view}
use Rattle.document.specs.Reader.{skip, next}
use Rattle.document.specs.Scope.{level, children, end_of, children_of, after_children, root_of, piece_of}
use Rattle.document.specs.Text.{value_start_at, first_text, text_of, joined, whole_of}
use Rattle.sheet.specs.Front.{times}
use Rattle.sheet.specs.Sheet.{structure_of, list_of, map_of}
use Rattle.sheet.specs.Names.{indexed, first_named}
use Rattle.readings.specs.Output.{numbers_of}
use Rattle.readings.specs.Plan.{perform, followed_by, one_by_one}
use Rattle.readings.specs.Opening.{opened, asked}
use Rattle.readings.specs.Structure.{attribute_of, attribute_plan, child_plan, in_group, siblings, group_of, has_group, group_plan}
use Rattle.readings.specs.Structure.{members_plan, root_piece, unwrapped_plan, opened_plan, structure_plan, structure_reading}
use Rattle.readings.specs.Collection.{is_wanted, item_plan, items_plan, list_plan}
use Rattle.readings.specs.Collection.{list_reading, string_plan, strings_plan, string_list_plan}
use Rattle.readings.specs.Collection.{string_list_reading, read_field, read_fields, entry_plan, after_entry, entries_of, entries_plan}
use Rattle.readings.specs.Collection.{map_plan, map_reading}
use Rattle.document.specs.Text.{string_in}
use Rattle.readings.specs.Scalar.{boolean_of, integer_of, scalar_text, boolean_reading, integer_reading, string_reading}
use Rattle.readings.specs.Scalar.{whole_text}
use Rattle.readings.specs.Find.{first_child, find_in, find}

unfoldable pub computed : Unit {0}
unfolding reference.computed sameb rows_of tok_as last_lt closing is_closed dec_table xml.same_name xml.has_name xml.walk xml.walked
    xml.drained
    xml.reference_place xml.drain_place before_colon name_matches error_at view skip next level children end_of children_of after_children
    root_of
    piece_of value_start_at first_text text_of joined whole_of times structure_of list_of map_of indexed first_named numbers_of perform
    followed_by
    one_by_one opened asked attribute_of attribute_plan child_plan in_group siblings group_of has_group group_plan members_plan root_piece
    unwrapped_plan opened_plan structure_plan structure_reading is_wanted item_plan items_plan list_plan list_reading string_plan
    strings_plan
    string_list_plan string_list_reading read_field read_fields entry_plan after_entry entries_of entries_plan map_plan map_reading
    boolean_of integer_of
    string_in scalar_text boolean_reading integer_reading string_reading whole_text first_child find_in find
computed = tt {0}

-- Structure sheets (01, "Sheets and entries"): what a struct that was read says.
use Rattle.std.specs.Prelude.{List}
use Rattle.sheet.specs.Sheet as defined
use Rattle.codec.specs.Told.{told_name}
use Rattle.codec.specs.Members.{members_at}
use Rattle.codec.specs.declared.members.Member.{Member}
use Rattle.codec.specs.declared.members.Members.{Members}
use Rattle.codec.specs.declared.structure.StructureSheet.{StructureSheet}

abbrev pub member_said : Member → defined.Member
member_said a =
    record {
      xml_name = told_name a.xml_name;
      member_name = told_name a.member_name;
      attribute = a.attribute;
      flattened = a.flattened;
      aggregate = a.aggregate;
    }

-- those at its places
abbrev pub members_of : Members → List defined.Member
members_of a = members_at a.bytes.now a.places a.count

abbrev pub structure_said : StructureSheet → defined.Structure
structure_said a =
    record {
      xml_name = told_name a.xml_name;
      original_name = told_name a.original_name;
      member_name = told_name a.member_name;
      unwrapped = a.unwrapped;
      shape_name = a.shape_name.now;
      members = members_of a.members;
    }

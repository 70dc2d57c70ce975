use Rattle.map.proofs.FieldLaws.{text_written, piece_written}
use Rattle.map.proofs.fields.write_both.Goals as goal

pub returns-in-Text : goal.returns-in-Text
returns-in-Text c = text_written c.args.key c.in-Text.is c.write_key_text.ensures

pub returns-in-Piece : goal.returns-in-Piece
returns-in-Piece c = piece_written c.args.key c.in-Piece.is c.write_key_piece.ensures

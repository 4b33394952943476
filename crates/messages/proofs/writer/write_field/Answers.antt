use Rattle.std.proofs.Common.{sym, arith}
use Rattle.vectors.specs.Parts.{content}
use Rattle.messages.proofs.Writing.{field-over}
use Rattle.messages.proofs.writer.write_field.Goals as goal

pub returns-clause-after : goal.returns-clause-after
returns-clause-after c =
    field-over c.args.out.now c.write_head.new.out c.write.new.out c.args.at c.args.tag c.content_len-size.result (content c.args.part) (sym c.content_len-size.ensures) (omega arith)
    c.write_head.ensures c.write.ensures

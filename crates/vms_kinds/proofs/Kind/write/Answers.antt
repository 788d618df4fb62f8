use Rattle.std.proofs.Common.{rules}
use Rattle.std.specs.Int.{w16, w32, w64}
use Rattle.vms_kinds.specs.declared.Kind.TheVariants.{I16, I32, I64}
use Rattle.vms_kinds.proofs.CodeLemmas.{as_i16, as_i32, as_i64, written_byte, written_plain, written_i8, written_signed}
use Rattle.vms_kinds.proofs.Kind.write.Goals as goal

pub returns-in-U8 : goal.returns-in-U8
returns-in-U8 c = written_byte c.args.self c.args.value c.args.bytes.now (search rules) (search rules) c.requires.range c.ranges.value (search rules) (search rules)

pub returns-in-U16 : goal.returns-in-U16
returns-in-U16 c = written_plain c.args.self c.args.value 2 c.args.bytes.now _ (search rules) (search rules) c.requires.range c.ranges.value c.write_u16.ensures

pub returns-in-U32 : goal.returns-in-U32
returns-in-U32 c = written_plain c.args.self c.args.value 4 c.args.bytes.now _ (search rules) (search rules) c.requires.range c.ranges.value c.write_u32.ensures

pub returns-in-U64 : goal.returns-in-U64
returns-in-U64 c = written_plain c.args.self c.args.value 8 c.args.bytes.now _ (search rules) (search rules) c.requires.range c.ranges.value c.write_u64.ensures

pub returns-in-I8 : goal.returns-in-I8
returns-in-I8 c = written_i8 c.args.self c.args.value c.args.bytes.now _ (search rules) c.requires.range c.ranges.value (search rules) (search rules) c.cast_unsigned.ensures

pub returns-in-I16 : goal.returns-in-I16
returns-in-I16 c = written_signed c.args.self I16 w16 c.args.value c.args.bytes.now _ (search rules) c.requires.range c.ranges.value (as_i16 c.args.value) c.write_i16.ensures

pub returns-in-I32 : goal.returns-in-I32
returns-in-I32 c = written_signed c.args.self I32 w32 c.args.value c.args.bytes.now _ (search rules) c.requires.range c.ranges.value (as_i32 c.args.value) c.write_i32.ensures

pub returns-in-I64 : goal.returns-in-I64
returns-in-I64 c = written_signed c.args.self I64 w64 c.args.value c.args.bytes.now _ (search rules) c.requires.range c.ranges.value (as_i64 c.args.value) c.write_i64.ensures

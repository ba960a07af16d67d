use Rattle.std.proofs.Common.{◌∙◌, rules}
use Rattle.std.specs.Int.{w32}
use Rattle.codec.specs.Records.{encode_record}
use Rattle.codec.proofs.Bytes.{to_le}
use Rattle.codec.proofs.Record.encode.Goals as goal

pub returns : goal.returns
unfolding encode_record
returns c =
    rw (
      c.copy_from_slice.ensures.after ∙ c.to_le_bytes.ensures,
      c.copy_from_slice-2.ensures.after ∙ c.to_le_bytes-2.ensures,
      c.copy_from_slice-3.ensures.after ∙ c.to_le_bytes-3.ensures,
      c.copy_from_slice-4.ensures.after ∙ c.to_le_bytes-4.ensures ∙ to_le w32 _,
      c.copy_from_slice-5.ensures.after ∙ c.to_le_bytes-5.ensures ∙ to_le w32 _,
      c.copy_from_slice-6.ensures.after ∙ c.to_le_bytes-6.ensures ∙ to_le w32 _,
      c.copy_from_slice-7.ensures.after ∙ c.to_le_bytes-7.ensures,
    ) (search rules)

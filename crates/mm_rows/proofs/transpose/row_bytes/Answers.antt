use Rattle.std.proofs.Common.{◌*◌, arith}
use Rattle.mm_rows.proofs.BandLaw.{no_bytes_written, next_byte_is_written}
use Rattle.mm_rows.proofs.BandLaw.{written_bytes_are_row_bytes}
use Rattle.mm_rows.proofs.transpose.row_bytes.Goals as goal

pub loop-k-init : goal.loop-k-init
loop-k-init c =
    record {
      last_le_rows = omega arith;
      bytes = no_bytes_written c.args.across c.args.bits.now c.args.byte_index (64 * c.args.w);
    }

pub loop-k-preserved : goal.loop-k-preserved
loop-k-preserved c =
    record {
      last_le_rows = omega arith;
      bytes = next_byte_is_written c.args.across c.args.bits.now c.args.byte_index c.loop-k.bytes
          (64 * c.args.w) c.loop-k.k (omega arith) c.loop-k.invariant.bytes;
    }

pub returns : goal.returns
returns c =
    written_bytes_are_row_bytes c.args.rows c.args.across c.args.bits.now c.args.w c.args.byte_index
    c.loop-k.bytes c.loop-k.k (omega arith) c.loop-k.invariant.last_le_rows c.loop-k.invariant.bytes

use Rattle.std.proofs.Common.{refl, arith}
use Rattle.text.proofs.PutLaws.{middle}
use Rattle.text.proofs.Page.put_word.Goals as goal

pub returns : goal.returns
returns c = record {
  put = record { next = refl; stored = middle _ c.args.word.now _ _ _ c.copy_from_slice.ensures.after (omega arith) c.requires };
  same = refl;
  stays = refl;
}

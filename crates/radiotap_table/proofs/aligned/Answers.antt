-- `radiotap_table::aligned` meets its contract: an alignment is a power of two, and the mask of a power of two is the remainder.
use Rattle.std.proofs.Common.{◌≡◌, ◌+◌, ◌-◌, ◌%◌, ◌∙◌, arith}
use Rattle.radiotap_rules.proofs.TableTests.{alignment_above, alignment-most}
use Rattle.radiotap_table.proofs.RoundLaws.{alignment_masked, masked_whole}
use Rattle.radiotap_table.proofs.aligned.Goals as goal

pub returns : goal.returns
returns c =
    let a = c.args.alignment in (
      λ ok.
          let mask : (a + 4294967295) % 4294967296 ≡ a - 1 = omega (arith, alignment_above a ok, alignment-most a ok) in
          rw (c.mask_of-mask.ensures ∙ mask) (alignment_masked a c.args.at ok),
      λ none.
          let mask : (a + 4294967295) % 4294967296 ≡ 4294967295 = omega arith in
          rw (c.mask_of-mask.ensures ∙ mask) (masked_whole c.args.at),
    )

use Rattle.std.proofs.Common.{refl, lit<}
use Rattle.abi_frames.specs.Performs.{saved_registers}
use Rattle.abi_frames.proofs.laws.example_is_code.Goals as goal

pub returns : goal.returns
unfolding saved_registers
returns c = record {
  is_code = record {
    few = lit< tt;
    regular = record { few_params = refl; inside = refl; first = refl; small = refl; paid = refl; paced = refl; few_args = refl };
    known = refl;
    near = refl;
    apart = refl;
    light = refl;
  };
  takes_nine = record {
    few = lit< tt;
    regular = record { few_params = refl; inside = refl; first = refl; small = refl; paid = refl; paced = refl; few_args = refl };
    known = refl;
    near = refl;
    apart = refl;
    light = refl;
  };
  makes_a_call = record {
    few = lit< tt;
    regular = record { few_params = refl; inside = refl; first = refl; small = refl; paid = refl; paced = refl; few_args = refl };
    known = refl;
    near = refl;
    apart = refl;
    light = refl;
  };
  copies_bytes = record {
    few = lit< tt;
    regular = record { few_params = refl; inside = refl; first = refl; small = refl; paid = refl; paced = refl; few_args = refl };
    known = refl;
    near = refl;
    apart = refl;
    light = refl;
  };
  size = refl;
}

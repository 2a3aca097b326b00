use Rattle.std.proofs.Common.{refl}
use Rattle.obj_link.proofs.ProgramLemmas.{begun, no_main}
use Rattle.obj_link.proofs.linking.resolve.begin.Goals as goal

pub invariant_of-result : goal.invariant_of-result
invariant_of-result c =
    record {
      is_program = ∣ begun c.args.texts.now c.args.functions.items c.from_vec-functions.result c.as_slice.result.now c.as_slice-3.result.now c.args.objects.items c.from_vec-objects.result c.as_slice-2.result.now c.args.joined.targets c.args.joined.main c.in-Some.main c.from_vec-functions.ensures c.as_slice.ensures c.as_slice-3.ensures c.from_vec-objects.ensures c.as_slice-2.ensures c.requires.functions c.requires.objects c.requires.joined c.if-not-within_limits.ensures c.in-Some.ensures ∣₁;
    }

pub returns-in-Some : goal.returns-in-Some
returns-in-Some c =
    record {
      texts_are = refl;
      is_program = begun c.args.texts.now c.args.functions.items c.from_vec-functions.result c.as_slice.result.now c.as_slice-3.result.now c.args.objects.items c.from_vec-objects.result c.as_slice-2.result.now c.args.joined.targets c.args.joined.main c.in-Some.main c.from_vec-functions.ensures c.as_slice.ensures c.as_slice-3.ensures c.from_vec-objects.ensures c.as_slice-2.ensures c.requires.functions c.requires.objects c.requires.joined c.if-not-within_limits.ensures c.in-Some.ensures;
    }

pub returns : goal.returns
returns c =
    no_main c.args.texts.now c.args.functions.items c.from_vec-functions.result c.as_slice-3.result.now c.args.joined.targets c.args.joined.main c.from_vec-functions.ensures c.as_slice-3.ensures c.requires.functions c.requires.joined
    c.in-None.ensures

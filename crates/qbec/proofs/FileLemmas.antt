-- The file of a program whose functions have words that stand for what they become.
use Rattle.std.proofs.Common.{◌≡◌, ℕ, ◌≤◌, List, length, sym, ◌∙◌, subst, IsTrue}
use Rattle.il_ast.specs.declared.program.Program.{Program}
use Rattle.il_types.specs.declared.checked.Checked.{Checked}
use Rattle.rv_isa.specs.Prelude.{Words, State, word_bytes}
use Rattle.obj_link.specs.Prelude.{Contents, IsImage, IsImageOf, contents_of, calls_reach, FitsBelow, IsProgram}
use Rattle.obj_link.proofs.FitLemmas.{program_fits}
use Rattle.obj_link.proofs.ImagesOf.{is_image_of}
use Rattle.elf_file.specs.Conditions.{Loads, Executable, Stands}
use Rattle.elf_file.specs.File.{executable_of}
use Rattle.elf_file.proofs.Reading.{Loads-unique}
use Rattle.rv_machine.specs.Starts.{Starts}
use Rattle.promote.proofs.Programs.{outcome_stays}
use Rattle.headline.specs.Headline.{Executes}
use Rattle.headline.proofs.DataPlaced.{programs_have_names, stands_well}
use Rattle.headline.proofs.CompiledRuns.{replaced_runs}
use Rattle.qbec.specs.Pipeline.{AreWords, with_functions}
use Rattle.qbec.specs.Refusals.{IsExecutableOf, IsFile}
use Rattle.qbec.proofs.PromotedFunctions.{compiled, one_each, is_promoted, names_are_there, same_contents, calls_still_reach}
use Rattle.qbec.proofs.ExecutableBytes.{has_bytes}
use Rattle.qbec.proofs.PromotedRuns.{executes_so}

pub fits_below : (texts : List Checked) (p : Program) (codes : List Words) → IsProgram texts p → AreWords codes p → FitsBelow p codes
fits_below texts p codes is words = program_fits texts p codes is words.few

-- the machine executes the program in whose place the promoted one is compiled
runs_promoted : (texts : List Checked) (p : Program) (codes : List Words) (x : Executable) (ws : List (List ℕ)) (s : State)
    → IsProgram texts p → AreWords codes p → IsTrue (calls_reach p codes) → IsImage (contents_of p codes) → Stands (contents_of p codes) x → Starts x ws s → length ws ≤ 1024 → length (word_bytes ws) ≤ 65536 → Executes p ws s
runs_promoted texts p codes x ws s is words reach good stands starts few short =
    let made = compiled p codes p.functions words.stand in
    let q = with_functions p made.functions in
    let is_q = is_promoted p made.functions made.are in
    let has = programs_have_names texts p is in
    let fits = fits_below texts p codes is words in
    let same = same_contents p codes made.functions made.are in
    let well = stands_well p codes x has (one_each p codes p.functions words.stand) words.every fits good stands in
    let bytes = has_bytes p codes x ws s has well.data_bytes starts few in
    executes_so p q ws s starts.begins.silent (λ n. outcome_stays p q ws n is_q bytes)
    (replaced_runs q codes x ws s (names_are_there p made.functions made.are has) (made.stand q is_q) words.every fits (sym (calls_still_reach p codes made.functions made.are) ∙ reach) (subst IsImage same good)
    (subst (λ i. Stands i x) same stands) starts few short)

pub is_file : (texts : List Checked) (p : Program) (codes : List Words) (image : Contents) (bytes : List ℕ) → IsProgram texts p → AreWords codes p → IsTrue (calls_reach p codes) → image ≡ contents_of p codes → IsImage image → Loads bytes (executable_of image) → Stands image (executable_of image) → IsFile p bytes
is_file texts p codes image bytes is words reach made good loads stands =
    record {
      file = executable_of image;
      loads = loads;
      every = λ x loaded. subst (IsExecutableOf p) (Loads-unique bytes (executable_of image) x loads loaded) here;
    }
  where
    here : IsExecutableOf p (executable_of image)
    here =
        record {
          image = image;
          is = subst (IsImageOf p) (sym made) (is_image_of p codes words.few words.every);
          stands = stands;
          runs =
              λ ws s starts few short.
              runs_promoted texts p codes (executable_of image) ws s is words reach (subst IsImage made good)
              (subst (λ i. Stands i (executable_of image)) made stands) starts few short;
        }

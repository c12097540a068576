-- The listing of an image file.
use Rattle.std.specs.Prelude.{ℕ, List}
use Rattle.decode.specs.declared.insn.Insn.{Insn}
use Rattle.verifier.specs.AnyFile.{IsFile}
use Rattle.verifier.specs.declared.file_form.FileForm.{FileForm}
use Rattle.listing.specs.declared.study.Study.{Study}
use Rattle.listing.specs.Listing.{IsListing}
use Rattle.listing.specs.Study.{IsStudy}

-- the text is the listing of code of this form, with a state of this length
pub record IsListed (form : FileForm) (code : List Insn) (state : ℕ) (text : List ℕ) : Type 0 where
  pub study : Study
  pub found : IsStudy form code state study
  pub listed : IsListing study text

-- the text is the listing of the file
pub record IsFileExplained (bytes text : List ℕ) : Type 0 where
  pub form : FileForm
  pub code : List Insn
  pub state : ℕ
  pub file : IsFile form code state bytes
  pub listed : IsListed form code state text

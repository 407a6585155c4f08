-- What is lent is what is entered in its file, and so has the answers of its file. Assumes nothing.
use mathlib.Core.Path.{sym}
use Rattle.answer_files.proofs.Alike.{file_alike}
use Rattle.screen.specs.Screen.{screen_of, SameAsFile}

pub same_as_file : SameAsFile
unfolding screen_of
same_as_file v few quiet fits out = sym (file_alike v few quiet fits out)

-- By the form. Assumes nothing.
use Rattle.loading.proofs.Forms.{key_file_support, network_file_support}
use Rattle.loading.proofs.write_support.Goals as goal

pub returns-in-KeyFile : goal.returns-in-KeyFile
returns-in-KeyFile c e = key_file_support c.args.file.now c.in-KeyFile.is e c.write_support.ensures

pub returns-in-NetworkFile : goal.returns-in-NetworkFile
returns-in-NetworkFile c e = network_file_support c.args.file.now c.in-NetworkFile.is e c.write_support-in-NetworkFile.ensures

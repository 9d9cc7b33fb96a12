-- By the form. Assumes nothing.
use Rattle.loading.proofs.Forms.{key_file_answer, network_file_answer}
use Rattle.loading.proofs.shape.Goals as goal

pub returns-in-KeyFile : goal.returns-in-KeyFile
returns-in-KeyFile c =
    let a = c.args in
    key_file_answer a.file.now c.in-KeyFile.is c.shape.ensures

pub returns-in-NetworkFile : goal.returns-in-NetworkFile
returns-in-NetworkFile c =
    let a = c.args in
    network_file_answer a.file.now c.in-NetworkFile.is c.shape-in-NetworkFile.ensures

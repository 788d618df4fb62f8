mod CallLaws
mod StoredFiles

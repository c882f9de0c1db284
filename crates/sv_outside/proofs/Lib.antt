mod Failures
